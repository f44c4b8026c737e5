-- For turn_rules and log_refinement too.
-- What the run of a line appends: its answer and what belongs to it for the line's actor, and no opening item of any other.
use Rattle.std.proofs.Common.{arith}
use Rattle.command_semantics.proofs.Names.{◌≡◌, ℕ, zero, suc, ◌<◌, Bool, true, false, List, [], ◌++◌, append_assoc}
use Rattle.command_semantics.proofs.Names.{Option, Some, None, ◌⊎◌, inl, inr, refl, sym, ◌∙◌, ap, subst, append-nil}
use Rattle.command_semantics.proofs.Names.{none-some, SetupNumbers, Fate, Actor, Session, Item, Event, State}
use Rattle.command_semantics.proofs.Names.{Step, stepped, doing_of, Line, Target, Verb, ScriptData, ReachedInvariant}
use Rattle.command_semantics.proofs.Names.{Point, Opens, Drives, Extends, Finishes, Reads, Steps, Over}
use Rattle.command_semantics.proofs.Names.{view_of, Clocks, target_node, read_next, next}
use Rattle.command_semantics.proofs.Names.{IsAnswer, asks_last, has_opening, fate_of, step_of, Run, clocks_of, next_in}
use Rattle.command_semantics.proofs.Names.{run_after, going_on, run_for, ActorFits, VerbFits}
use Rattle.command_semantics.proofs.AlwaysFit.{Fit}
use Rattle.command_semantics.proofs.Ending.{Keeps, Going, goes_on}
use Rattle.command_semantics.proofs.OpenedLines.{line_answered}
use Rattle.command_semantics.proofs.OpeningItems.{Begins}
use Rattle.command_semantics.proofs.OwnItems.{answer_own}
use Rattle.command_semantics.proofs.OwnLines.{follows_later, ReadOn, opens_line, line_longer, later_plain, read_longer, read_next_is, opens_some}
use Rattle.command_semantics.proofs.PlainEvents.{events_plain}
use Rattle.command_semantics.proofs.LaterEvents.{IsLater, first_opens_none}
use Rattle.command_semantics.proofs.Takes.{TakesFit, last_fits}
use Rattle.command_semantics.proofs.Walks.{AllNot, plain_not, not_append, LineItems}
use Rattle.command_semantics.proofs.ReadLines.{EndsOrReads}
use Rattle.command_semantics.proofs.ReadSteps.{read_goes_on, read_has_next}

-- ---- what each event of a run keeps, the run keeps
on_by : (P : State → List Item → Type 0) (script : ScriptData) (line : Line) (most : ℕ) (J : Run → Type 0) (r : Run) (on : Event → Run) → J r → ((e : Event) → next_in script line r ≡ Some e → J (on e)) → (found : Option Event) → next_in script line r ≡ found → J (going_on r found on)
on_by P script line most J r on now later found is = grind arith

pub run_keeps : (P : State → List Item → Type 0) (script : ScriptData) (line : Line) (most : ℕ) (J : Run → Type 0) → Keeps P → ((r : Run) (e : Event) → Going P script line most r → J r → next_in script line r ≡ Some e → J (run_after script line r e)) → (n : ℕ) (r : Run) → Going P script line most r → J r → J (run_for n script line r)
unfolding run_for
run_keeps P script line most J keeps each zero r going now = now
run_keeps P script line most J keeps each (suc n) r going now = on_by P script line most J r (λ e. run_for n script line (run_after script line r e)) now (λ e is. run_keeps P script line most J keeps each n (run_after script line r e) (goes_on P script line most r e keeps going is) (each r e going now is)) (next_in script line r) refl

-- the facts hold, the parts are there, and so are the nodes that have taken the record
abbrev pub IsFit : State → List Item → Type 0
IsFit w h = ReachedInvariant w h × Fit w × TakesFit w.setup.nodes h

going_master : (script : ScriptData) (line : Line) (most : ℕ) (r : Run) → Going IsFit script line most r → (clocks_of script r.played).master < r.played.state.setup.nodes
going_master script line most r going = last_fits r.played.state.setup.nodes r.played.items going.has.2

-- the items that were appended, behind those at the start of the run
grown : (h xs items at : List Item) → at ≡ h ++ xs → at ++ items ≡ h ++ (xs ++ items)
grown h xs items at is = ap (λ (ys : List Item). ys ++ items) is ∙ append_assoc h xs items

-- ---- the line of another actor, or one without an opening item
pub record Other (actor : Actor) (h : List Item) (r : Run) : Type 0 where
  pub xs : List Item
  pub is : r.played.items ≡ h ++ xs
  pub none : AllNot actor xs

begins_not : (asks : Target → ℕ → Type 0) (actor who : Actor) (line : Verb) (items : List Item) → (who ≡ actor → ⊥) → Begins (IsAnswer asks who line) items → AllNot actor items
unfolding AllNot
begins_not asks actor who line items differ k = subst (λ (xs : List Item). AllNot actor xs) (sym k.is) ((λ opens. differ (answer_own asks who actor line k.first k.answers opens)), plain_not actor k.rest k.plain)

-- the node that the clocks tell
abbrev pub asks_by : Clocks → Target → ℕ → Type 0
asks_by clocks to node = node ≡ target_node clocks to

first_not : (actor : Actor) (clocks : Clocks) (w : State) (h : List Item) (line : Line) (e : Event) (fate : Fate) → ReachedInvariant w h → Fit w → ActorFits w.setup line.actor → VerbFits w.setup line.verb → clocks.master < w.setup.nodes → (has_opening line.actor line.verb ≡ true → line.actor ≡ actor → ⊥) → (has : Bool) → has_opening line.actor line.verb ≡ has → next clocks line.actor line.verb Opens (view_of w line.actor) ≡ Some e → AllNot actor (stepped w e fate).items
first_not actor clocks w h line e fate stands fit in_range fits master differ false none is = plain_not actor (stepped w e fate).items (events_plain w e fate (first_opens_none clocks line.actor line.verb (view_of w line.actor) e none is))
first_not actor clocks w h line e fate stands fit in_range fits master differ true opening is = begins_not (asks_by clocks) actor line.actor line.verb (stepped w e fate).items (differ opening) (line_answered (asks_by clocks) clocks w h line.actor line.verb (view_of w line.actor) e fate stands fit in_range fits master (λ to. refl) opening is)

pub any_not : (actor : Actor) (clocks : Clocks) (w : State) (h : List Item) (line : Line) (at : Point) (e : Event) (fate : Fate) → ReachedInvariant w h → Fit w → ActorFits w.setup line.actor → VerbFits w.setup line.verb → clocks.master < w.setup.nodes → (has_opening line.actor line.verb ≡ true → line.actor ≡ actor → ⊥) → next clocks line.actor line.verb at (view_of w line.actor) ≡ Some e → AllNot actor (stepped w e fate).items
any_not actor clocks w h line Opens e fate stands fit in_range fits master differ is = first_not actor clocks w h line e fate stands fit in_range fits master differ (has_opening line.actor line.verb) refl is
any_not actor clocks w h line Drives e fate stands fit in_range fits master differ is = later_plain clocks w line.actor actor line.verb Drives (view_of w line.actor) e fate tt is
any_not actor clocks w h line Extends e fate stands fit in_range fits master differ is = later_plain clocks w line.actor actor line.verb Extends (view_of w line.actor) e fate tt is
any_not actor clocks w h line Finishes e fate stands fit in_range fits master differ is = later_plain clocks w line.actor actor line.verb Finishes (view_of w line.actor) e fate tt is
any_not actor clocks w h line Reads e fate stands fit in_range fits master differ is = later_plain clocks w line.actor actor line.verb Reads (view_of w line.actor) e fate tt is
any_not actor clocks w h line Steps e fate stands fit in_range fits master differ is = later_plain clocks w line.actor actor line.verb Steps (view_of w line.actor) e fate tt is
any_not actor clocks w h line Over e fate stands fit in_range fits master differ is = later_plain clocks w line.actor actor line.verb Over (view_of w line.actor) e fate tt is

pub other_goes_on : (actor : Actor) (script : ScriptData) (line : Line) (most : ℕ) (h : List Item) → ActorFits script.setup line.actor → VerbFits script.setup line.verb → (has_opening line.actor line.verb ≡ true → line.actor ≡ actor → ⊥) → (r : Run) (e : Event) → Going IsFit script line most r → Other actor h r → next_in script line r ≡ Some e → Other actor h (run_after script line r e)
other_goes_on actor script line most h in_range asks differ r e going k is =
    let w : State = r.played.state in
    let items : List Item = (step_of script r.played e).items in
    let mine : ActorFits w.setup line.actor = subst (λ (setup : SetupNumbers). ActorFits setup line.actor) (sym going.reached.setup) in_range in
    let asked : VerbFits w.setup line.verb = subst (λ (setup : SetupNumbers). VerbFits setup line.verb) (sym going.reached.setup) asks in
    record {
      xs = k.xs ++ items;
      is = grown h k.xs items r.played.items k.is;
      none = not_append actor k.xs items k.none (any_not actor (clocks_of script r.played) w r.played.items line r.point e (fate_of script r.played e) going.reached.stands going.has.1 mine asked (going_master script line most r going) differ is);
    }

-- ---- the actor's own line
-- what answers the line behind this part of the history
abbrev pub LastAnswer : List Item → Line → Item → Type 0
LastAnswer h line x = IsAnswer (asks_last h) line.actor line.verb x

abbrev pub OwnSoFar : Line → List Item → Run → List Item → Type 0
OwnSoFar line h r xs = ((r.point ≡ Opens) × (xs ≡ [])) ⊎ (IsLater r.point × LineItems (LastAnswer h line) line.actor line.verb xs) ⊎ ((r.point ≡ Reads) × ReadOn line.actor line.verb r.played.state xs)

pub record Own (line : Line) (h : List Item) (r : Run) : Type 0 where
  pub xs : List Item
  pub is : r.played.items ≡ h ++ xs
  pub so_far : OwnSoFar line h r xs

-- the line asks the last before it
asks_so : (script : ScriptData) (r : Run) (h xs : List Item) → r.played.items ≡ h ++ xs → xs ≡ [] → (to : Target) → asks_last h to (target_node (clocks_of script r.played) to)
asks_so script r h xs is none to = grind (arith, append-nil)

own_opens : (script : ScriptData) (line : Line) (most : ℕ) (h : List Item) → ActorFits script.setup line.actor → VerbFits script.setup line.verb → has_opening line.actor line.verb ≡ true → (r : Run) (e : Event) → Going IsFit script line most r → next_in script line r ≡ Some e → (xs : List Item) → r.played.items ≡ h ++ xs → r.point ≡ Opens → xs ≡ [] → OwnSoFar line h (run_after script line r e) (xs ++ (step_of script r.played e).items)
own_opens script line most h in_range asks opening r e going is xs has at none =
    let w : State = r.played.state in
    let fate : Fate = fate_of script r.played e in
    let step : Step = stepped w e fate in
    let clocks : Clocks = clocks_of script r.played in
    let mine : ActorFits w.setup line.actor = subst (λ (setup : SetupNumbers). ActorFits setup line.actor) (sym going.reached.setup) in_range in
    let asked : VerbFits w.setup line.verb = subst (λ (setup : SetupNumbers). VerbFits setup line.verb) (sym going.reached.setup) asks in
    let first : next clocks line.actor line.verb Opens (view_of w line.actor) ≡ Some e = subst (λ (p : Point). next clocks line.actor line.verb p (view_of w line.actor) ≡ Some e) at is in
    elim (opens_line (asks_last h) clocks w r.played.items line.actor line.verb (view_of w line.actor) e fate going.reached.stands going.has.1 mine asked (going_master script line most r going) (asks_so script r h xs has none) opening first) [
      | inl k ↦ inr (inl (follows_later line.verb r.point step, subst (λ (ys : List Item). LineItems (LastAnswer h line) line.actor line.verb (ys ++ step.items)) (sym none) k))
      | inr (on, stop) ↦
          grind arith
    ]

own_reads : (script : ScriptData) (line : Line) (h : List Item) (r : Run) (e : Event) → next_in script line r ≡ Some e → (xs : List Item) → r.point ≡ Reads → ReadOn line.actor line.verb r.played.state xs → OwnSoFar line h (run_after script line r e) (xs ++ (step_of script r.played e).items)
own_reads script line h r e is xs at on =
    let w : State = r.played.state in
    let fate : Fate = fate_of script r.played e in
    let step : Step = stepped w e fate in
    let clocks : Clocks = clocks_of script r.played in
    let here : next clocks line.actor line.verb Reads (view_of w line.actor) ≡ Some e = subst (λ (p : Point). next clocks line.actor line.verb p (view_of w line.actor) ≡ Some e) at is in
    let mine : read_next on.s (doing_of w on.s) ≡ Some e = subst (λ (a : Actor). next clocks a line.verb Reads (view_of w a) ≡ Some e) on.actor_is here in
    let ends : EndsOrReads on.s on.key step = subst (λ (x : Event). EndsOrReads on.s on.key (stepped w x fate)) (read_next_is w on.s on.key e on.begun.reads mine) (read_goes_on w on.s on.key on.begun.reads fate) in
    elim (read_longer w on.s on.key xs step on.begun ends) [
      | inl k ↦ inr (inl (follows_later line.verb r.point step, subst (λ (a : Actor). LineItems (IsAnswer (asks_last h) a line.verb) a line.verb (xs ++ step.items)) (sym on.actor_is) (subst (λ (v : Verb). LineItems (IsAnswer (asks_last h) (Session on.s) v) (Session on.s) v (xs ++ step.items)) (sym on.verb_is) k)))
      | inr (begun, stop) ↦
          grind arith
    ]

own_by : (script : ScriptData) (line : Line) (most : ℕ) (h : List Item) → ActorFits script.setup line.actor → VerbFits script.setup line.verb → has_opening line.actor line.verb ≡ true → (r : Run) (e : Event) → Going IsFit script line most r → next_in script line r ≡ Some e → (xs : List Item) → r.played.items ≡ h ++ xs → OwnSoFar line h r xs → OwnSoFar line h (run_after script line r e) (xs ++ (step_of script r.played e).items)
own_by script line most h in_range asks opening r e going is xs has (inl (at, none)) = own_opens script line most h in_range asks opening r e going is xs has at none
own_by script line most h in_range asks opening r e going is xs has (inr (inl (later, k))) = inr (inl (follows_later line.verb r.point (step_of script r.played e), line_longer (LastAnswer h line) line.actor line.verb xs (step_of script r.played e).items k (later_plain (clocks_of script r.played) r.played.state line.actor line.actor line.verb r.point (view_of r.played.state line.actor) e (fate_of script r.played e) later is)))
own_by script line most h in_range asks opening r e going is xs has (inr (inr (at, on))) = own_reads script line h r e is xs at on

pub own_goes_on : (script : ScriptData) (line : Line) (most : ℕ) (h : List Item) → ActorFits script.setup line.actor → VerbFits script.setup line.verb → has_opening line.actor line.verb ≡ true → (r : Run) (e : Event) → Going IsFit script line most r → Own line h r → next_in script line r ≡ Some e → Own line h (run_after script line r e)
own_goes_on script line most h in_range asks opening r e going k is = record {
  xs = k.xs ++ (step_of script r.played e).items;
  is = grown h k.xs (step_of script r.played e).items r.played.items k.is;
  so_far = own_by script line most h in_range asks opening r e going is k.xs k.is k.so_far;
}

-- at its end it is answered
pub own_ends : (script : ScriptData) (line : Line) (h : List Item) (r : Run) (xs : List Item) → has_opening line.actor line.verb ≡ true → next_in script line r ≡ None → OwnSoFar line h r xs → LineItems (LastAnswer h line) line.actor line.verb xs
own_ends script line h r xs opening over h1 = grind (arith, opens_some, none-some, read_has_next)
