-- An event of the lent janitor is one of all lent parts.
use Rattle.split_parts.proofs.Names.{◌≡◌, ℕ, ◌<◌, List, [], Option, Some, None, Result, refl, sym, ap, ◌∙◌, subst}
use Rattle.split_parts.proofs.Names.{IfSome, slice_get, IsSome, Fate, Item, InstanceEntry, Pairs, Row, Sweeping}
use Rattle.split_parts.proofs.Names.{sweep_ask, Event, State, opening, Effect, SweepParts, sweep_step_asks}
use Rattle.split_parts.proofs.Names.{sweep_step_on, KeepsShadowNext, MaySweep, at_post, of_sweep, of_swept, step_by}
use Rattle.split_parts.proofs.Names.{stepped, Makes, fate_ahead, Stopped, asked_of, HasPost, MakesOfJanitor}
use Rattle.split_parts.proofs.Names.{MakesOfStores, lent_effect, on_janitor, on_lent, CellRows, Marks, Node, Parts}
use Rattle.split_parts.proofs.Names.{fate_of, filled, given_pairs, given_rows, lent_rows, or_else, setup_of}
use Rattle.machine.specs.declared.event.Event.TheVariants as event
use Rattle.split_parts.proofs.Directly.{Direct, IsDirect, ahead_is, direct_by, makes_directly, node_lent, post_is, some_of}
use Rattle.split_parts.proofs.FoundParts.{post_there}
use Rattle.split_parts.proofs.Giving.{given_back}

-- ---- a sweep is opened by the lent node's instance
abbrev pub janitor_set : Parts → Option (Option Sweeping) → Parts
janitor_set l v = record l { janitor = v }

abbrev with_janitor : Parts → Node → Option Sweeping → Parts
with_janitor l part sweep = record l { node = Some part; janitor = Some sweep }

abbrev janitor_direct : Parts → Option Sweeping → Effect (Option Sweeping) → Direct (Option (Option Sweeping))
janitor_direct l sweep effect = record { set = janitor_set l; old = Some sweep; effect = on_janitor effect }

directs_janitor : (l : Parts) (e : Event) (fate : Fate) (n : ℕ) (part : Node) (sweep : Option Sweeping) (g : Option InstanceEntry → Effect (Option Sweeping)) → part.node ≡ n → part.node < l.plan.setup.nodes → stepped (filled (with_janitor l part sweep)) e fate ≡ of_sweep (filled (with_janitor l part sweep)) n g → IsDirect (with_janitor l part sweep) e fate (janitor_direct (with_janitor l part sweep) sweep (g part.instance))
directs_janitor l e fate n part sweep g node within is =
    let p : Parts = with_janitor l part sweep in
    let w : State = opening (setup_of l) in
    let effect : Effect (Option Sweeping) = g part.instance in
    let found : slice_get (filled p).nodes n ≡ Some part.instance = post_there p n node ∙ post_is l.plan.setup.nodes part within in
    direct_by p e fate (janitor_direct p sweep effect) (record (filled p) { sweep = effect.parts }) refl
    (is ∙ (λ k. at_post (filled p) (found k) (λ post. step_by (g post) (λ y. record (filled p) { sweep = y }))))
    (λ k. record p {
      sessions = ap (λ (y : Parts). y.sessions) (given_back w p) k;
      janitor = Some effect.parts;
      node = ap (λ (y : Parts). y.node) (given_back w p) k;
      cells = ap (λ (y : Parts). y.cells) (given_back w p) k;
      table = ap (λ (y : Parts). y.table) (given_back w p) k;
      master = ap (λ (y : Parts). y.master) (given_back w p) k;
    })

pub janitor_made : (l now : Parts) (e : Event) (fate : Fate) (n : ℕ) (f : Option InstanceEntry → Option Sweeping → Effect (Option Sweeping)) (before items : List Item) (result : Result Unit Stopped) → HasPost l n → IsSome l.janitor → ((p : Parts) → stepped (filled p) e fate ≡ of_sweep (filled p) n (λ i. f i (filled p).sweep)) → now ≡ janitor_set l now.janitor → MakesOfJanitor f l.node l.janitor now.janitor before items result → Makes (lent_effect l e fate) l now before items result
janitor_made l now e fate n f before items result has lent is others made =
    let at = node_lent l.plan.setup.nodes l.node n has in
    let sweep = some_of l.janitor lent in
    let same : with_janitor l at.0 sweep.0 ≡ l = λ k. record l { node = sym at.1 k; janitor = sym sweep.1 k } in
    let others_too : now ≡ janitor_set (with_janitor l at.0 sweep.0) now.janitor = others ∙ ap (λ (p : Parts). janitor_set p now.janitor) (sym same) in
    subst (λ (p : Parts). Makes (lent_effect p e fate) p now before items result) same
    (makes_directly (with_janitor l at.0 sweep.0) now e fate (janitor_direct (with_janitor l at.0 sweep.0) sweep.0 (f at.0.instance sweep.0)) now.janitor before items result
    (directs_janitor l e fate n at.0 sweep.0 (λ i. f i sweep.0) at.2 at.3 (is (with_janitor l at.0 sweep.0))) others_too
    (subst (λ (x : Option (Option Sweeping)). MakesOfJanitor f (Some at.0) x now.janitor before items result) sweep.1 (subst (λ (x : Option Node). MakesOfJanitor f x l.janitor now.janitor before items result) at.1 made)))

-- ---- a step of the sweep, by the stores that are lent
abbrev pub swept_set : Parts → Option (Option Sweeping) × Option CellRows × Option Marks → Parts
swept_set l v = record l { janitor = v.0; cells = v.1; table = v.2 }

abbrev with_sweep : Parts → Option Sweeping → Parts
with_sweep l sweep = record l { janitor = Some sweep }

abbrev swept_direct : Parts → Option Sweeping → Effect SweepParts → Direct (Option (Option Sweeping) × Option CellRows × Option Marks)
swept_direct l sweep effect = record { set = swept_set l; old = (Some sweep, l.cells, l.table); effect = on_lent l.cells l.table effect }

directs_swept : (l : Parts) (e : Event) (fate : Fate) (sweep : Option Sweeping) (effect : Effect SweepParts) → stepped (filled (with_sweep l sweep)) e fate ≡ of_swept (filled (with_sweep l sweep)) effect → IsDirect (with_sweep l sweep) e fate (swept_direct (with_sweep l sweep) sweep effect)
directs_swept l e fate sweep effect is =
    let p : Parts = with_sweep l sweep in
    let w : State = opening (setup_of l) in
    direct_by p e fate (swept_direct p sweep effect) (record (filled p) { sweep = effect.parts.0; rows = effect.parts.1; pairs = effect.parts.2 }) refl is
    (λ k. record p {
      sessions = ap (λ (y : Parts). y.sessions) (given_back w p) k;
      janitor = Some effect.parts.0;
      node = ap (λ (y : Parts). y.node) (given_back w p) k;
      cells = given_rows effect.parts.1 l.cells;
      table = given_pairs effect.parts.2 l.table;
      master = ap (λ (y : Parts). y.master) (given_back w p) k;
    })

pub swept_made : (l now : Parts) (e : Event) (fate : Fate) (f : Option Sweeping → List Row → Pairs → Effect SweepParts) (before items : List Item) (result : Result Unit Stopped) → IsSome l.janitor → ((s : Option Sweeping) → l.janitor ≡ Some s → stepped (filled (with_sweep l s)) e fate ≡ of_swept (filled (with_sweep l s)) (f s (filled l).rows (filled l).pairs)) → now ≡ swept_set l (now.janitor, now.cells, now.table) → MakesOfStores f l.janitor l.cells l.table now.janitor now.cells now.table before items result → Makes (lent_effect l e fate) l now before items result
swept_made l now e fate f before items result lent is others made =
    let sweep = some_of l.janitor lent in
    let same : with_sweep l sweep.0 ≡ l = λ k. record l { janitor = sym sweep.1 k } in
    subst (λ (p : Parts). Makes (lent_effect p e fate) p now before items result) same
    (makes_directly (with_sweep l sweep.0) now e fate (swept_direct (with_sweep l sweep.0) sweep.0 (f sweep.0 (filled l).rows (filled l).pairs)) (now.janitor, now.cells, now.table) before items result
    (directs_swept l e fate sweep.0 (f sweep.0 (filled l).rows (filled l).pairs) (is sweep.0 sweep.1)) others
    (subst (λ (x : Option (Option Sweeping)). MakesOfStores f x l.cells l.table now.janitor now.cells now.table before items result) sweep.1 made))

-- the fate of a store that is not asked does not count
pub sweep_is : (l : Parts) (fate : Fate) (s : Option Sweeping) → l.janitor ≡ Some s → fate ≡ fate_of l (asked_of l event.SweepStep) → stepped (filled (with_sweep l s)) event.SweepStep fate ≡ of_swept (filled (with_sweep l s)) (sweep_step_on (fate_ahead (sweep_step_asks s) (λ store n. fate)) s (filled l).rows (filled l).pairs)
sweep_is l fate s at is =
    let asks_is : asked_of l event.SweepStep ≡ sweep_step_asks s = ap (λ (x : Option (Option Sweeping)). sweep_step_asks (or_else x None)) at in
    let same : fate ≡ fate_ahead (sweep_step_asks s) (λ store n. fate) = sym (ahead_is l (sweep_step_asks s) fate (is ∙ ap (fate_of l) asks_is)) in
    ap (λ (x : Fate). of_swept (filled (with_sweep l s)) (sweep_step_on x s (filled l).rows (filled l).pairs)) same

may_sweep_by : (l : Parts) (janitor : Option (Option Sweeping)) → janitor ≡ l.janitor → MaySweep (filled l) → IfSome janitor (λ sweep. IfSome sweep (λ s. KeepsShadowNext (sweep_ask s) (lent_rows [] l.cells)))
may_sweep_by l None at may = tt
may_sweep_by l (Some sweep) at may = subst (λ (x : Option (Option Sweeping)). IfSome (or_else x None) (λ s. KeepsShadowNext (sweep_ask s) (lent_rows [] l.cells))) (sym at) may

pub may_sweep : (l : Parts) → MaySweep (filled l) → IfSome l.janitor (λ sweep. IfSome sweep (λ s. KeepsShadowNext (sweep_ask s) (lent_rows [] l.cells)))
may_sweep l may = may_sweep_by l l.janitor refl may
