-- An event of the lent node and the lent master record is one of all lent parts.
use Rattle.split_parts.proofs.Names.{◌≡◌, ℕ, ◌<◌, List, slice_set, Option, Some, None, Result, refl, sym, ap, ◌∙◌}
use Rattle.split_parts.proofs.Names.{subst, slice_get, IfSome, IsSome, SetupNumbers, Store, Fate, Item, InstanceEntry}
use Rattle.split_parts.proofs.Names.{MasterRecord, Event, State, opening, Effect, extend_asks, renew_asks, asks_at_post}
use Rattle.split_parts.proofs.Names.{at_post, of_record, step_by, stepped, with_post, Makes, Stopped, Covers, MayExtend}
use Rattle.split_parts.proofs.Names.{HasPost, MakesOfRecord, lent_effect, on_kept, post_by, Node, Parts, Record, filled}
use Rattle.split_parts.proofs.Names.{lent_master, setup_of}
use Rattle.split_parts.proofs.Directly.{Direct, IsDirect, direct_by, has_node, makes_directly, node_lent, post_in, post_is, posts_over, some_of}
use Rattle.split_parts.proofs.FoundParts.{post_there}
use Rattle.split_parts.proofs.Giving.{given_back}

-- ---- the effect on all lent parts
abbrev pub kept_set : Parts → Option Node × Option Record → Parts
kept_set l v = record l { node = v.0; master = v.1 }

abbrev with_kept : Parts → Node → Record → Parts
with_kept l part kept = record l { node = Some part; master = Some kept }

abbrev kept_direct : Parts → Node → Record → Effect (Option InstanceEntry × MasterRecord) → Direct (Option Node × Option Record)
kept_direct l part kept effect = record { set = kept_set l; old = (Some part, Some kept); effect = on_kept part kept effect }

directs_kept : (l : Parts) (e : Event) (fate : Fate) (n q : ℕ) (part : Node) (kept : Record) (g : Option InstanceEntry → Effect (Option InstanceEntry × MasterRecord)) → part.node ≡ n → part.node < l.plan.setup.nodes → stepped (filled (with_kept l part kept)) e fate ≡ of_record (record (filled (with_kept l part kept)) { seen = q }) n g → IsDirect (with_kept l part kept) e fate (kept_direct (with_kept l part kept) part kept (g part.instance))
directs_kept l e fate n q part kept g node within is =
    let p : Parts = with_kept l part kept in
    let w : State = opening (setup_of l) in
    let effect : Effect (Option InstanceEntry × MasterRecord) = g part.instance in
    let found : slice_get (filled p).nodes n ≡ Some part.instance = post_there p n node ∙ post_is l.plan.setup.nodes part within in
    let posts : slice_set (filled p).nodes n effect.parts.0 ≡ slice_set w.nodes part.node effect.parts.0 = ap (λ (m : ℕ). slice_set (filled p).nodes m effect.parts.0) (sym node) ∙ posts_over w.nodes part.node part.instance effect.parts.0 in
    direct_by p e fate (kept_direct p part kept effect) (record (filled p) { seen = q; nodes = slice_set w.nodes part.node effect.parts.0; master = effect.parts.1 }) refl
    (is ∙ (λ k. at_post (record (filled p) { seen = q }) (found k) (λ post. step_by (g post) (λ y. record (with_post (record (filled p) { seen = q }) n y.0) { master = y.1 })))
    ∙ (λ k. record { state = record (filled p) { seen = q; nodes = posts k; master = effect.parts.1 }; items = effect.items; stop = effect.stop }))
    (λ k. record p {
      sessions = ap (λ (y : Parts). y.sessions) (given_back w p) k;
      janitor = ap (λ (y : Parts). y.janitor) (given_back w p) k;
      node = Some (record part { instance = post_in l.plan.setup.nodes part.node effect.parts.0 part.instance within k });
      cells = ap (λ (y : Parts). y.cells) (given_back w p) k;
      table = ap (λ (y : Parts). y.table) (given_back w p) k;
      master = Some (record kept { state = effect.parts.1 });
    })

-- the call made the event of node and record, under the setup of the parts, and so of the lent parts
pub kept_made : (l now : Parts) (e : Event) (fate : Fate) (n q : ℕ) (setup : SetupNumbers) (f : SetupNumbers → Option InstanceEntry → MasterRecord → Effect (Option InstanceEntry × MasterRecord)) (before items : List Item) (result : Result Unit Stopped) → HasPost l n → IsSome l.master → setup ≡ setup_of l → ((p : Parts) → stepped (filled p) e fate ≡ of_record (record (filled p) { seen = q }) n (λ i. f (setup_of p) i (filled p).master)) → now ≡ kept_set l (now.node, now.master) → MakesOfRecord (f setup) l.node l.master now.node now.master before items result → Makes (lent_effect l e fate) l now before items result
kept_made l now e fate n q setup f before items result has master same_setup is others made =
    let at = node_lent l.plan.setup.nodes l.node n has in
    let kept = some_of l.master master in
    let same : with_kept l at.0 kept.0 ≡ l = λ k. record l { node = sym at.1 k; master = sym kept.1 k } in
    subst (λ (p : Parts). Makes (lent_effect p e fate) p now before items result) same
    (makes_directly (with_kept l at.0 kept.0) now e fate (kept_direct (with_kept l at.0 kept.0) at.0 kept.0 (f (setup_of l) at.0.instance kept.0.state)) (now.node, now.master) before items result
    (directs_kept l e fate n q at.0 kept.0 (λ i. f (setup_of l) i kept.0.state) at.2 at.3 (is (with_kept l at.0 kept.0))) others
    (subst (λ (x : SetupNumbers). MakesOfRecord (f x) (Some at.0) (Some kept.0) now.node now.master before items result) same_setup (subst (λ (x : Option Record). MakesOfRecord (f setup) (Some at.0) x now.node now.master before items result) kept.1 (subst (λ (x : Option Node). MakesOfRecord (f setup) x l.master now.node now.master before items result) at.1 made))))

-- ---- what the events ask, and require
pub asked_at : (l : Parts) (n : ℕ) (f : Option InstanceEntry → Option Store) (asked : Option Store) (post : Option InstanceEntry) → HasPost l n → post_by l.plan.setup.nodes l.node ≡ Some post → asked ≡ f post → asked ≡ asks_at_post (slice_get (filled l).nodes n) f
asked_at l n f asked post has at is = is ∙ sym (ap (λ (found : Option (Option InstanceEntry)). asks_at_post found f) (post_there l n (has_node l.plan.setup.nodes l.node n has) ∙ at))

-- an extension asks as a renewal does
pub as_renewed : (post : Option InstanceEntry) → renew_asks post ≡ extend_asks post
as_renewed None = refl
as_renewed (Some i) = refl

covered : (l : Parts) (n : ℕ) (part : Option Node) (kept : Option Record) → HasPost l n → part ≡ l.node → kept ≡ l.master → MayExtend (filled l) n → IfSome part (λ p. IfSome kept (λ r. IfSome p.instance (Covers r.state)))
covered l n None kept has at lent may = tt
covered l n (Some p) None has at lent may = tt
covered l n (Some p) (Some r) has at lent may =
    let there = node_lent l.plan.setup.nodes l.node n has in
    let within : p.node < l.plan.setup.nodes = subst (λ (x : Option Node). IfSome x (λ y. y.node < l.plan.setup.nodes)) (sym there.1 ∙ sym at) there.3 in
    let found : slice_get (filled l).nodes n ≡ Some p.instance = post_there l n (has_node l.plan.setup.nodes l.node n has) ∙ ap (post_by l.plan.setup.nodes) (sym at) ∙ post_is l.plan.setup.nodes p within in
    covers_by l p.instance r (sym lent) (may p.instance found)
  where
    covers_by : (l : Parts) (post : Option InstanceEntry) (r : Record) → l.master ≡ Some r → IfSome post (Covers (filled l).master) → IfSome post (Covers r.state)
    covers_by l post r lent all = subst (λ (x : MasterRecord). IfSome post (Covers x)) (ap (λ (x : Option Record). lent_master (opening (setup_of l)).master x) lent) all

pub may_extend : (l : Parts) (n : ℕ) → HasPost l n → MayExtend (filled l) n → IfSome l.node (λ p. IfSome l.master (λ r. IfSome p.instance (Covers r.state)))
may_extend l n has may = covered l n l.node l.master has refl refl may
