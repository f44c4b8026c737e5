-- What every step keeps, and what stands at the end.
use Rattle.std.specs.Prelude.{◌≡◌, ◌≢◌, ℕ, ◌≤◌, List, [], ◌∷◌, ◌++◌, Some}
use Rattle.stamp_base.specs.declared.stage.Stage.{Stage}
use Rattle.history_book.specs.declared.item.Actor.{Actor}
use Rattle.history_book.specs.declared.item.Actor.TheVariants.{Session}
use Rattle.script_data.specs.Data.{ScriptData}
use Rattle.turn_rules.specs.declared.turn.Turn.{Turn}
use Rattle.turn_rules.specs.Carried.{seat_of, carried, AreWhole}
use Rattle.thread_steps.specs.declared.stages.StageStep.{StageStep}
use Rattle.run_board.specs.declared.answers.Advance.{Advance}
use Rattle.run_board.specs.Run.{Ran}
use Rattle.run_board.specs.Seating.{touched}
use Rattle.run_board.specs.Steps.{place_of, HasEnded, Advances, Serves}

-- it is the same script, and no actor's place has fallen
pub record IsFurther (old new : Ran) : Type 0 where
  pub script : new.script ≡ old.script
  pub places : (actor : Actor) → place_of old actor ≤ place_of new actor

-- so it is after an actor's step
abbrev pub AdvancesGoFurther : Type 0
AdvancesGoFurther = (old new : Ran) (actor : Actor) (aim : ℕ) (answer : Advance) → Advances old actor aim answer new → IsFurther old new

-- and after a stage's
abbrev pub StageStepsGoFurther : Type 0
StageStepsGoFurther = (old new : Ran) (node term : ℕ) (stage : Stage) (session : ℕ) (answer : StageStep) → Serves old node term stage session answer new → IsFurther old new

-- where every actor has ended, the turns are whole
abbrev pub EndedRunsAreWhole : Type 0
EndedRunsAreWhole = (r : Ran) → ((actor : Actor) → HasEnded r actor) → AreWhole r.script r.turns

-- a turn of a session, or one that serves its request, lets no other actor pass a line: every other seat is as before
abbrev pub OthersStaySeated : Type 0
OthersStaySeated = (script : ScriptData) (turns : List Turn) (turn : Turn) (session : ℕ) (actor : Actor) → touched turn ≡ Some session → actor ≢ Session session → seat_of (carried script (turns ++ turn ∷ [])).seats actor ≡ seat_of (carried script turns).seats actor
