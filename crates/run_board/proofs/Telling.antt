-- How the turns of stages and of actors are told.
use Rattle.run_board.proofs.Names.{◌≡◌, ℕ, Bool, true, false, List, Option, Some, None, Result, Ok, Err, inl, inr, refl}
use Rattle.run_board.proofs.Names.{sym, ◌∙◌, ap, subst, drop, length, IsSomeAnd, true≢false, Stage, Actor, Item, Event}
use Rattle.run_board.proofs.Names.{Stop, Refuses, Faults, term_of, Stopped, Refused, StoreFault, NoMemory, Turn}
use Rattle.run_board.proofs.Names.{event_of, IsTold, step_in, TurnsBy, MakesTurn, Makes, StageStep, Ran, reached_by}
use Rattle.run_board.proofs.Names.{state_of, asked_of, node_asked, drawn_in, did, done_by, told_by, TellsTurn, ServesBy}
use Rattle.run_board.proofs.Names.{LacksUnserved, IsServable, ServesOnce, Serves, IsStageHeld, MakesOwn}
use Rattle.turn_rules.specs.declared.turn.Turn.TheVariants as turn
use Rattle.thread_steps.specs.declared.stages.StageStep.TheVariants as step
use Rattle.run_board.proofs.Since.{items_of, has_grown}

-- ---- a turn is told neither as held nor as stale
abbrev is_plain : StageStep → Bool
is_plain step.Held = false
is_plain (step.Stale found) = false
is_plain _ = true

did_plain : (stamps : Option (ℕ × Option ℕ)) → is_plain (did stamps) ≡ true
did_plain None = refl
did_plain (Some stamps) = refl

done_plain : (by : Turn) (items : List Item) → is_plain (done_by by items) ≡ true
done_plain (turn.Decide node session) items = did_plain (drawn_in items)
done_plain (turn.Put node session) items = refl
done_plain (turn.Answer node session) items = refl
done_plain (turn.Own actor aim) items = refl
done_plain (turn.Accept node session) items = refl
done_plain (turn.Extend node) items = refl

told_plain : (by : Turn) (items : List Item) (stop : Option Stop) → is_plain (told_by by items stop) ≡ true
told_plain by items None = done_plain by items
told_plain by items (Some (Refuses why)) = refl
told_plain by items (Some (Faults store)) = refl

abbrev is_answer : StageStep → Bool
is_answer step.NoMemory = false
is_answer _ = true

did_answer : (stamps : Option (ℕ × Option ℕ)) → is_answer (did stamps) ≡ true
did_answer None = refl
did_answer (Some stamps) = refl

done_answer : (by : Turn) (items : List Item) → is_answer (done_by by items) ≡ true
done_answer (turn.Decide node session) items = did_answer (drawn_in items)
done_answer (turn.Put node session) items = refl
done_answer (turn.Answer node session) items = refl
done_answer (turn.Own actor aim) items = refl
done_answer (turn.Accept node session) items = refl
done_answer (turn.Extend node) items = refl

-- what a stage made for the session's request
pub record Served (old : Ran) (node term : ℕ) (stage : Stage) (session : ℕ) (by : Turn) (e : Event) : Type 0 where
  pub free : IsStageHeld old node stage ≡ false
  pub of_term : term_of (state_of old) node ≡ Some term
  pub servable : IsServable old node stage session by
  pub event : event_of old.script (reached_by old) by ≡ Some e

once : (old new : Ran) (node term : ℕ) (stage : Stage) (session : ℕ) (by : Turn) (e : Event) (result : StageStep) → Served old node term stage session by e → TellsTurn old by e result new → ServesOnce old node term stage session result new
once old new node term stage session by e result k tells = record {
  by = by;
  free = k.free;
  of_term = k.of_term;
  servable = k.servable;
  told = subst (λ (found : Option Event). IsSomeAnd found (λ x. TellsTurn old by x result new)) (sym k.event) tells;
}

not_plain : (old new : Ran) (by : Turn) (e : Event) (result : StageStep) → is_plain result ≡ false → TellsTurn old by e result new → ⊥
not_plain old new by e result not tells = true≢false (sym (told_plain by (step_in old e).items tells.stop) ∙ ap is_plain (sym tells.told) ∙ not)

pub serves : (old new : Ran) (node term : ℕ) (stage : Stage) (session : ℕ) (by : Turn) (e : Event) (result : StageStep) → Served old node term stage session by e → ServesBy old by e result new → Serves old node term stage session result new
serves old new node term stage session by e step.NoMemory k made = (k.free, made)
serves old new node term stage session by e step.Held k made = absurd (not_plain old new by e step.Held refl made)
serves old new node term stage session by e (step.Stale found) k made = absurd (not_plain old new by e (step.Stale found) refl made)
serves old new node term stage session by e step.Went k made = once old new node term stage session by e step.Went k made
serves old new node term stage session by e (step.Did start commit) k made = once old new node term stage session by e (step.Did start commit) k made
serves old new node term stage session by e step.Settled k made = once old new node term stage session by e step.Settled k made
serves old new node term stage session by e step.Answered k made = once old new node term stage session by e step.Answered k made
serves old new node term stage session by e (step.Refused why) k made = once old new node term stage session by e (step.Refused why) k made
serves old new node term stage session by e step.Fault k made = once old new node term stage session by e step.Fault k made

-- a turn that was done
by_step : (old new : Ran) (by : Turn) (e : Event) (result : StageStep) → is_answer result ≡ true → TellsTurn old by e result new → ServesBy old by e result new
by_step old new by e step.NoMemory some tells = absurd (true≢false (sym some))
by_step old new by e step.Held some tells = tells
by_step old new by e (step.Stale found) some tells = tells
by_step old new by e step.Went some tells = tells
by_step old new by e (step.Did start commit) some tells = tells
by_step old new by e step.Settled some tells = tells
by_step old new by e step.Answered some tells = tells
by_step old new by e (step.Refused why) some tells = tells
by_step old new by e step.Fault some tells = tells

pub done_serves : (old new : Ran) (by : Turn) (e : Event) (before : ℕ) (result : StageStep) → event_of old.script (reached_by old) by ≡ Some e → before ≡ length (items_of old) → result ≡ done_by by (drop before (items_of new)) → MakesTurn old by e None new → ServesBy old by e result new
done_serves old new by e before result is length_is told made =
    by_step old new by e result (ap is_answer told ∙ done_answer by (drop before (items_of new)))
    (record { stop = None; made = made; told = told ∙ ap (λ (xs : List Item). done_by by xs) (has_grown old new by e before is length_is made.made).since })

-- it did not lack memory
answers_lack_none : (by : Turn) (result : StageStep) → is_answer result ≡ true → LacksUnserved by result
answers_lack_none by step.NoMemory some = absurd (true≢false (sym some))
answers_lack_none by step.Held some = tt
answers_lack_none by (step.Stale found) some = tt
answers_lack_none by step.Went some = tt
answers_lack_none by (step.Did start commit) some = tt
answers_lack_none by step.Settled some = tt
answers_lack_none by step.Answered some = tt
answers_lack_none by (step.Refused why) some = tt
answers_lack_none by step.Fault some = tt

pub done_lacks_none : (by : Turn) (items : List Item) (result : StageStep) → result ≡ done_by by items → LacksUnserved by result
done_lacks_none by items result told = answers_lack_none by result (ap is_answer told ∙ done_answer by items)

-- ---- an actor's turn
own_by : (old new : Ran) (actor : Actor) (aim : ℕ) (e : Event) (asked : Option (ℕ × ℕ)) → event_of old.script (reached_by old) (turn.Own actor aim) ≡ Some e → IsTold old.script (reached_by old).played e → asked ≡ asked_of (state_of new) (node_asked (step_in old e).items) → TurnsBy old (turn.Own actor aim) e new → MakesOwn old actor aim asked new
own_by old new actor aim e asked is told asks (inl made) = record {
  lawful = made.0;
  turns = made.1;
  asks = subst (λ (found : Option Event). IsSomeAnd found (λ x. asked ≡ asked_of (state_of new) (node_asked (step_in old x).items))) (sym is) asks;
}
own_by old new actor aim e asked is told asks (inr quiet) = absurd (quiet.untold told)

-- what it found: its event is the actor's turn there and is told, and this was asked since
pub record OwnCall (old new : Ran) (actor : Actor) (aim : ℕ) (e : Event) (before : ℕ) (asked : Option (ℕ × ℕ)) : Type 0 where
  pub event : event_of old.script (reached_by old) (turn.Own actor aim) ≡ Some e
  pub told : IsTold old.script (reached_by old).played e
  pub length_is : before ≡ length (items_of old)
  pub asks : asked ≡ asked_of (state_of new) (node_asked (drop before (items_of new)))

own_stopped : (old new : Ran) (actor : Actor) (aim : ℕ) (e : Event) (stop : Option Stop) (before : ℕ) (asked : Option (ℕ × ℕ)) → OwnCall old new actor aim e before asked → MakesTurn old (turn.Own actor aim) e stop new → MakesOwn old actor aim asked new
own_stopped old new actor aim e stop before asked k made =
    let appended : drop before (items_of new) ≡ (step_in old e).items = (has_grown old new (turn.Own actor aim) e before k.event k.length_is made.made).since in
    own_by old new actor aim e asked k.event k.told (k.asks ∙ ap (λ (xs : List Item). asked_of (state_of new) (node_asked xs)) appended) made.made

-- unless memory was refused
pub own_made : (old new : Ran) (actor : Actor) (aim : ℕ) (e : Event) (answer : Result Unit Stopped) (before : ℕ) (asked : Option (ℕ × ℕ)) → OwnCall old new actor aim e before asked → (answer ≡ Err NoMemory → ⊥) → Makes old (turn.Own actor aim) e answer new → MakesOwn old actor aim asked new
own_made old new actor aim e (Ok done) before asked k some made = own_stopped old new actor aim e None before asked k made
own_made old new actor aim e (Err (Refused why)) before asked k some made = own_stopped old new actor aim e (Some (Refuses why)) before asked k made
own_made old new actor aim e (Err (StoreFault store)) before asked k some made = own_stopped old new actor aim e (Some (Faults store)) before asked k made
own_made old new actor aim e (Err NoMemory) before asked k some made = absurd (some refl)
