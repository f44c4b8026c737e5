-- Every step keeps the script, and lowers no place.
use Rattle.run_board.proofs.Names.{◌≡◌, ℕ, ◌≤◌, Option, Some, None, inl, inr, sym, ap, subst, arith, IsSomeAnd, Stage}
use Rattle.run_board.proofs.Names.{Event, Turn, event_of, StageStep, Ran, reached_by, with_turn, TurnsBy, place_of}
use Rattle.run_board.proofs.Names.{TellsTurn, ServesOnce, IsFurther, AdvancesGoFurther, StageStepsGoFurther}
use Rattle.turn_rules.specs.declared.turn.Turn.TheVariants as turn
use Rattle.thread_steps.specs.declared.stages.StageStep.TheVariants as step
use Rattle.run_board.specs.declared.answers.Advance.TheVariants as advance
use Rattle.run_board.proofs.Places.{places_rise}

stays : (old new : Ran) → new ≡ old → IsFurther old new
stays old new same = record {
  script = ap (λ (r : Ran). r.script) same;
  places = λ actor. subst (λ (r : Ran). place_of old actor ≤ place_of r actor) (sym same) (omega arith);
}

turns : (old new : Ran) (t : Turn) → new ≡ with_turn old t → IsFurther old new
turns old new t made = record {
  script = ap (λ (r : Ran). r.script) made;
  places = λ actor. subst (λ (r : Ran). place_of old actor ≤ place_of r actor) (sym made) (places_rise old.script old.turns t actor);
}

pub advances_go_further : AdvancesGoFurther
advances_go_further old new actor aim (advance.Did asked) k = turns old new (turn.Own actor aim) k.turns
advances_go_further old new actor aim (advance.Waits why) k = stays old new k.1
advances_go_further old new actor aim advance.Ended k = stays old new k.1
advances_go_further old new actor aim advance.NoMemory k = stays old new k

turned : (old new : Ran) (t : Turn) (e : Event) → TurnsBy old t e new → IsFurther old new
turned old new t e (inl made) = turns old new t made.1
turned old new t e (inr quiet) = stays old new quiet.same

told : (old new : Ran) (t : Turn) (result : StageStep) (found : Option Event) → IsSomeAnd found (λ e. TellsTurn old t e result new) → IsFurther old new
told old new t result None k = absurd k
told old new t result (Some e) k = turned old new t e k.made.made

once : (old new : Ran) (node term : ℕ) (stage : Stage) (session : ℕ) (result : StageStep) → ServesOnce old node term stage session result new → IsFurther old new
once old new node term stage session result k = told old new k.by result (event_of old.script (reached_by old) k.by) k.told

pub stage_steps_go_further : StageStepsGoFurther
stage_steps_go_further old new node term stage session step.Held k = stays old new k.1
stage_steps_go_further old new node term stage session (step.Stale found) k = stays old new k.3
stage_steps_go_further old new node term stage session step.NoMemory k = stays old new k.1
stage_steps_go_further old new node term stage session step.Went k = once old new node term stage session step.Went k
stage_steps_go_further old new node term stage session (step.Did start commit) k = once old new node term stage session (step.Did start commit) k
stage_steps_go_further old new node term stage session step.Settled k = once old new node term stage session step.Settled k
stage_steps_go_further old new node term stage session step.Answered k = once old new node term stage session step.Answered k
stage_steps_go_further old new node term stage session (step.Refused why) k = once old new node term stage session (step.Refused why) k
stage_steps_go_further old new node term stage session step.Fault k = once old new node term stage session step.Fault k
