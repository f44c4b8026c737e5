-- A cursor comes up wherever its actor makes a turn of its own.
use Rattle.run_board.proofs.Names.{◌≡◌, ℕ, ◌≤◌, Bool, true, false, cond, List, [], ◌∷◌, ◌++◌, All, Option, Some, None}
use Rattle.run_board.proofs.Names.{inl, inr, refl, sym, ap, ◌∙◌, subst, arith, IsSomeAnd, cases_Bool, none-some}
use Rattle.run_board.proofs.Names.{All-head, All-tail, Stage, Actor, Clock, AtEach-push, AtEach-weaker, Event, Cursor}
use Rattle.run_board.proofs.Names.{is_same, caught_up, Turn, event_of, stage_of, StageStep, Advance, Ran, reached_by}
use Rattle.run_board.proofs.Names.{with_turn, TurnsBy, place_of, TellsTurn, ServesOnce, Advances, Serves, cursor_of}
use Rattle.run_board.proofs.Names.{IsUpTo, IsCountedAt, AreCounted}
use Rattle.history_book.specs.Members.{AtEach}
use Rattle.thread_steps.proofs.CaughtUp.{actor_is}
use Rattle.turn_rules.specs.declared.turn.Turn.TheVariants as turn
use Rattle.thread_steps.specs.declared.stages.StageStep.TheVariants as step
use Rattle.run_board.specs.declared.answers.Advance.TheVariants as advance

-- ---- the cursors
up_by : (n : ℕ) (other : Actor) (place : ℕ) (c : Cursor) (cs rest : List Cursor) (here : Bool) → (here ≡ true → c.done ≤ place)
    → (IsUpTo n (cursor_of cs other) → IsUpTo n (cursor_of rest other)) → IsUpTo n (cursor_of (c ∷ cs) other) → IsUpTo n (cursor_of (cond here (record c { done = place } ∷ cs) (c ∷ rest)) other)
up_by n other place c cs rest true low others = elim (cases_Bool (is_same c.actor other)) [
  | inl q ↦ rw q (λ h. let le = low refl in omega arith)
  | inr q ↦ rw q (λ h. h)
]
up_by n other place c cs rest false low others = elim (cases_Bool (is_same c.actor other)) [ inl q ↦ rw q (λ h. h) | inr q ↦ rw q others ]

-- a cursor that is up to a number is so once one has come up
still_up : (n : ℕ) (other actor : Actor) (place : ℕ) (cursors : List Cursor) → All (λ (c : Cursor). c.actor ≡ actor → c.done ≤ place) cursors → IsUpTo n (cursor_of cursors other) → IsUpTo n (cursor_of (caught_up actor place cursors) other)
unfolding caught_up
still_up n other actor place [] low = λ h. h
still_up n other actor place (c ∷ cs) low =
    let Low : Cursor → Type 0 = λ c. c.actor ≡ actor → c.done ≤ place in
    up_by n other place c cs (caught_up actor place cs) (is_same c.actor actor) (λ is. All-head Low c cs low (actor_is c.actor actor is)) (still_up n other actor place cs (All-tail Low c cs low))

here_by : (actor : Actor) (place : ℕ) (c : Cursor) (cs rest : List Cursor) (here : Bool) → is_same c.actor actor ≡ here → IsUpTo place (cursor_of rest actor) → IsUpTo place (cursor_of (cond here (record c { done = place } ∷ cs) (c ∷ rest)) actor)
here_by actor place c cs rest true is others = rw is (omega arith)
here_by actor place c cs rest false is others = rw is others

comes_up : (actor : Actor) (place : ℕ) (cursors : List Cursor) → IsUpTo place (cursor_of (caught_up actor place cursors) actor)
unfolding caught_up
comes_up actor place [] = tt
comes_up actor place (c ∷ cs) = here_by actor place c cs (caught_up actor place cs) (is_same c.actor actor) refl (comes_up actor place cs)

-- ---- the turns
pub counted_up : (r : Ran) (cursors : List Cursor) (actor : Actor) (place : ℕ) → All (λ (c : Cursor). c.actor ≡ actor → c.done ≤ place) cursors → AreCounted r cursors → AreCounted r (caught_up actor place cursors)
counted_up r cursors actor place low counted = λ other. AtEach-weaker (IsCountedAt r cursors other) (IsCountedAt r (caught_up actor place cursors) other) r.turns (counted other)
    (λ before t among is aim own. still_up (place_of (record { script = r.script; turns = before ++ t ∷ [] }) other) other actor place cursors low (is aim own))

made : (old : Ran) (t : Turn) (cursors : List Cursor) → ((other : Actor) → IsCountedAt (with_turn old t) cursors other old.turns t) → AreCounted old cursors → AreCounted (with_turn old t) cursors
made old t cursors last counted = λ other. AtEach-push (IsCountedAt old cursors other) old.turns t (counted other) (last other)

own_of : Turn → Actor
own_of (turn.Own actor aim) = actor
own_of _ = Clock

own : (old : Ran) (actor : Actor) (aim : ℕ) (cursors : List Cursor) (place : ℕ) → place ≡ place_of (with_turn old (turn.Own actor aim)) actor → All (λ (c : Cursor). c.actor ≡ actor → c.done ≤ place) cursors → AreCounted old cursors → AreCounted (with_turn old (turn.Own actor aim)) (caught_up actor place cursors)
unfolding own_of
own old actor aim cursors place at low counted = made old (turn.Own actor aim) (caught_up actor place cursors)
    (λ other other_aim is. subst (λ (a : Actor). IsUpTo (place_of (with_turn old (turn.Own actor aim)) a) (cursor_of (caught_up actor place cursors) a)) (ap own_of is) (subst (λ (n : ℕ). IsUpTo n (cursor_of (caught_up actor place cursors) actor)) at (comes_up actor place cursors)))
    (counted_up old cursors actor place low counted)

pub counted_advanced : (old new : Ran) (actor : Actor) (aim : ℕ) (answer : Advance) (cursors : List Cursor) (place : ℕ) → Advances old actor aim answer new → place ≡ place_of new actor → All (λ (c : Cursor). c.actor ≡ actor → c.done ≤ place) cursors → AreCounted old cursors → AreCounted new (caught_up actor place cursors)
counted_advanced old new actor aim (advance.Did asked) cursors place k at low counted = subst (λ (r : Ran). AreCounted r (caught_up actor place cursors)) (sym k.turns) (own old actor aim cursors place (at ∙ ap (λ (r : Ran). place_of r actor) k.turns) low counted)
counted_advanced old new actor aim (advance.Waits why) cursors place k at low counted = subst (λ (r : Ran). AreCounted r (caught_up actor place cursors)) (sym k.1) (counted_up old cursors actor place low counted)
counted_advanced old new actor aim advance.Ended cursors place k at low counted = subst (λ (r : Ran). AreCounted r (caught_up actor place cursors)) (sym k.1) (counted_up old cursors actor place low counted)
counted_advanced old new actor aim advance.NoMemory cursors place k at low counted = subst (λ (r : Ran). AreCounted r (caught_up actor place cursors)) (sym k) (counted_up old cursors actor place low counted)

-- ---- a stage's turn is nobody's own
counted_same : (old new : Ran) (cursors : List Cursor) → new ≡ old → AreCounted old cursors → AreCounted new cursors
counted_same old new cursors same counted = subst (λ (r : Ran). AreCounted r cursors) (sym same) counted

turned : (old new : Ran) (t : Turn) (e : Event) (cursors : List Cursor) (stage : ℕ × Stage) → stage_of t ≡ Some stage → TurnsBy old t e new → AreCounted old cursors → AreCounted new cursors
turned old new t e cursors stage of (inl k) counted = subst (λ (r : Ran). AreCounted r cursors) (sym k.1) (made old t cursors (λ other aim is. absurd (none-some stage (sym (ap stage_of is) ∙ of))) counted)
turned old new t e cursors stage of (inr quiet) counted = counted_same old new cursors quiet.same counted

told : (old new : Ran) (t : Turn) (result : StageStep) (found : Option Event) (cursors : List Cursor) (stage : ℕ × Stage) → stage_of t ≡ Some stage → IsSomeAnd found (λ e. TellsTurn old t e result new) → AreCounted old cursors → AreCounted new cursors
told old new t result None cursors stage of k counted = absurd k
told old new t result (Some e) cursors stage of k counted = turned old new t e cursors stage of k.made.made counted

once : (old new : Ran) (node term : ℕ) (stage : Stage) (session : ℕ) (result : StageStep) (cursors : List Cursor) → ServesOnce old node term stage session result new → AreCounted old cursors → AreCounted new cursors
once old new node term stage session result cursors k counted = told old new k.by result (event_of old.script (reached_by old) k.by) cursors (node, stage) k.servable.of_stage k.told counted

pub counted_served : (old new : Ran) (node term : ℕ) (stage : Stage) (session : ℕ) (answer : StageStep) (cursors : List Cursor) → Serves old node term stage session answer new → AreCounted old cursors → AreCounted new cursors
counted_served old new node term stage session step.Held cursors k counted = counted_same old new cursors k.1 counted
counted_served old new node term stage session (step.Stale found) cursors k counted = counted_same old new cursors k.3 counted
counted_served old new node term stage session step.NoMemory cursors k counted = counted_same old new cursors k.1 counted
counted_served old new node term stage session step.Went cursors k counted = once old new node term stage session step.Went cursors k counted
counted_served old new node term stage session (step.Did start commit) cursors k counted = once old new node term stage session (step.Did start commit) cursors k counted
counted_served old new node term stage session step.Settled cursors k counted = once old new node term stage session step.Settled cursors k counted
counted_served old new node term stage session step.Answered cursors k counted = once old new node term stage session step.Answered cursors k counted
counted_served old new node term stage session (step.Refused why) cursors k counted = once old new node term stage session (step.Refused why) cursors k counted
counted_served old new node term stage session step.Fault cursors k counted = once old new node term stage session step.Fault cursors k counted

-- ---- no turn was made
pub counted_at_first : (r : Ran) (cursors : List Cursor) → r.turns ≡ [] → AreCounted r cursors
counted_at_first r cursors none = λ actor. subst (λ (turns : List Turn). AtEach (IsCountedAt r cursors actor) turns) (sym none) (record { at = λ place t is. absurd (none-some t is) })
