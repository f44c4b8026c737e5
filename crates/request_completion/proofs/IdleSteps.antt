-- A step of a session whose completion is under way asks a store, and is not refused as idle.
use Rattle.std.proofs.Common.{arith}
use Rattle.request_completion.proofs.Names.{◌≡◌, ℕ, Bool, true, false, List, [], ◌∷◌, Option, None, Some}
use Rattle.request_completion.proofs.Names.{refl, sym, ◌∙◌, ap, subst, append-nil, Fate}
use Rattle.request_completion.proofs.Names.{◌∈◌, Cause, Actor, Session, Item, Row, Pairs, Ask, Told}
use Rattle.request_completion.proofs.Names.{SessionState, step_refusal, handed_by, handed_commit, UnderWay, Completes}
use Rattle.request_completion.proofs.Names.{Client, State, Met, met, mark_kept}
use Rattle.request_completion.proofs.Names.{items_met, store_of, told_by, Effect, Step, stepped, at_client, step_by}
use Rattle.request_completion.proofs.Names.{with_client, is_reading, StepParts, complete_by, work_by, work_of, step_at}
use Rattle.request_completion.proofs.Names.{step_due, step_refused, step_on, ClientAt, ReachedInvariant, in_back}
use Rattle.request_completion.proofs.Names.{in_append, IdleStepsCompleteNothing, TellsFirst, CompletionStepsTell}
use Rattle.history_book.specs.declared.cause.Cause.TheVariants as cause
use Rattle.history_book.specs.declared.item.Item.TheVariants as item
use Rattle.system_parts.specs.declared.asks.Ask.TheVariants as ask
use Rattle.system_parts.specs.declared.asks.Told.TheVariants as told
use Rattle.system_parts.specs.declared.session.State.TheVariants as phase
use Rattle.machine.specs.declared.event.Event.TheVariants as event
use Rattle.request_completion.proofs.OwingItems.{only_is}

-- ---- a step on a store tells no refusal
one_not : (who : Actor) (why : Cause) (y : Item) → (item.Refused who why ≡ y → ⊥) → item.Refused who why ∈ (y ∷ []) → ⊥
one_not who why y not m = not (only_is (item.Refused who why) y m)

fault_not : (who : Actor) (why : Cause) (actor : Actor) (asked : Ask) → item.Refused who why ∈ (item.Fault actor (store_of asked) ∷ []) → ⊥
fault_not who why actor asked m = one_not who why (item.Fault actor (store_of asked)) (λ is. cc) m

kept_not : (who : Actor) (why : Cause) (actor : Actor) (asked : Ask) (answer : Told) → item.Refused who why ∈ mark_kept actor asked answer → ⊥
unfolding ◌∈◌
kept_not who why actor (ask.Mark txn) told.Marked m = one_not who why (item.Mark actor txn) (λ is. cc) m
kept_not who why actor _ _ m = m

met_not : (who : Actor) (why : Cause) (actor : Actor) (asked : Ask) (answer : Told) (fate : Fate) → item.Refused who why ∈ items_met actor asked answer fate → ⊥
met_not who why actor asked answer fate m = grind (arith, one_not, in_append, kept_not, fault_not)

-- ---- the step of a completion
complete_items : (c : Client) (asked : Ask) (asks : List Ask) (m : Met) (answer : Option Told) → (complete_by c asked asks m answer).items ≡ m.items
complete_items c asked asks m None = refl
complete_items c asked asks m (Some answer) = append-nil m.items

completes_not : (who : Actor) (why : Cause) (s : ℕ) (fate : Fate) (c : Client) (rows : List Row) (pairs : Pairs) (asks : List Ask) → item.Refused who why ∈ (step_at s fate c rows pairs (Completes asks)).items → ⊥
unfolding ◌∈◌
completes_not who why s fate c rows pairs [] m = m
completes_not who why s fate c rows pairs (asked ∷ asks) m =
    let it : Met = met (Session s) asked fate rows pairs in
    met_not who why (Session s) asked (told_by asked rows pairs) fate (subst (λ (items : List Item). item.Refused who why ∈ items) (complete_items c asked asks it it.told) m)

-- a completion goes on before all else
pub completing_effect : (s : ℕ) (fate : Fate) (c : Client) (rows : List Row) (pairs : Pairs) (undo : Bool) (asks : List Ask) → c.entry.state ≡ phase.Completing undo → c.under_way ≡ Completes asks → step_on s fate c rows pairs ≡ step_at s fate c rows pairs (Completes asks)
completing_effect s fate c rows pairs undo asks completing under_way =
    let free : step_refusal c.entry.state (is_reading c) ≡ None = ap (λ (state : SessionState). step_refusal state (is_reading c)) completing in
    let none : handed_commit c.entry ≡ None = ap (λ (state : SessionState). handed_by state c.entry.start c.entry.commit) completing in
    let work : work_of c ≡ Completes asks = ap (λ (state : SessionState). work_by state c.entry c.under_way) completing ∙ under_way in
    ap (λ (refusal : Option Cause). step_refused s fate c rows pairs refusal) free
    ∙ ap (λ (stamps : Option (ℕ × ℕ)). step_due s fate c rows pairs stamps) none
    ∙ ap (λ (now : UnderWay). step_at s fate c rows pairs now) work

busy_by : (w : State) (h : List Item) (s : ℕ) (c : Client) (undo : Bool) → ReachedInvariant w h → ClientAt w.clients s c → c.entry.state ≡ phase.Completing undo → (asks : List Ask) × (c.under_way ≡ Completes asks)
busy_by w h s c true stands at completing = stands.holds.under_way.undoing.busy s c at completing
busy_by w h s c false stands at completing = stands.holds.under_way.finishing.busy s c at completing

step_items : (w : State) (s : ℕ) (fate : Fate) (c : Client) (undo : Bool) (asks : List Ask) → ClientAt w.clients s c → c.entry.state ≡ phase.Completing undo → c.under_way ≡ Completes asks → (stepped w (event.Step s) fate).items ≡ (step_at s fate c w.rows w.pairs (Completes asks)).items
step_items w s fate c undo asks at completing under_way =
    let f : Client → Step = λ d. step_by (step_on s fate d w.rows w.pairs) (λ p. record (with_client w s p.0) { rows = p.1; pairs = p.2 }) in
    ap (λ (found : Option Client). (at_client w found f).items) at ∙ ap (λ (effect : Effect StepParts). effect.items) (completing_effect s fate c w.rows w.pairs undo asks completing under_way)

pub idle_steps_complete_nothing : IdleStepsCompleteNothing
idle_steps_complete_nothing w h s fate c undo stands at m completing =
    let busy : (asks : List Ask) × (c.under_way ≡ Completes asks) = busy_by w h s c undo stands at completing in
    completes_not (Session s) cause.Idle s fate c w.rows w.pairs busy.0 (subst (λ (items : List Item). item.Refused (Session s) cause.Idle ∈ items) (step_items w s fate c undo busy.0 at completing busy.1) m)

-- ---- what it tells
tells_at : (s : ℕ) (fate : Fate) (c : Client) (rows : List Row) (pairs : Pairs) (asks : List Ask) → TellsFirst s asks (step_at s fate c rows pairs (Completes asks)).items
unfolding ◌∈◌
tells_at s fate c rows pairs asks = grind (arith, complete_items, in_back)

pub completion_steps_tell : CompletionStepsTell
completion_steps_tell w h s fate c undo stands at completing =
    let busy : (asks : List Ask) × (c.under_way ≡ Completes asks) = busy_by w h s c undo stands at completing in
    (busy.0, busy.1, subst (λ (items : List Item). TellsFirst s busy.0 items) (sym (step_items w s fate c undo busy.0 at completing busy.1)) (tells_at s fate c w.rows w.pairs busy.0))
