-- A request that is served through all stages of its node at once.
use Rattle.std.specs.Prelude.{◌≡◌, ℕ, ◌<◌, false, List, [], ◌∷◌}
use Rattle.stamp_base.specs.declared.numbers.TheConstants.SessionNo as sessions
use Rattle.stamp_base.specs.declared.stage.Stage.{Stage}
use Rattle.stamp_base.specs.declared.stage.Stage.TheVariants.{Request, Persist, Reply}
use Rattle.thread_steps.specs.declared.stages.StageStep.{StageStep}
use Rattle.run_board.specs.Run.{Ran}
use Rattle.run_board.specs.Steps.{IsStageHeld, state_of, has_turn}
use Rattle.run_board.specs.Playing.{Played, Serves}

-- no commit at the node is drawn and not put
abbrev pub AreSettled : Ran → ℕ → Type 0
AreSettled r node = (session : ℕ) → session < sessions.COUNT → has_turn (state_of r) node Persist session ≡ false

-- nothing is at the node that a request would wait for: no stage is held, and no commit is drawn and not put
pub record IsClear (r : Ran) (node : ℕ) : Type 0 where
  pub free : (stage : Stage) → IsStageHeld r node stage ≡ false
  pub settled : AreSettled r node

-- the stage was asked for steps for the session's request, one after the other, with these answers, the last one first
unfoldable pub Follow : ℕ → ℕ → Stage → ℕ → List StageStep → Played → Played → Type 0
Follow node term stage session [] old new = new ≡ old
Follow node term stage session (answer ∷ before) old new = (between : Played) × Follow node term stage session before old between × Serves between node term stage session answer new

pub record MakesSteps (node term : ℕ) (stage : Stage) (session : ℕ) (old new : Played) : Type 0 where
  pub answers : List StageStep
  pub follow : Follow node term stage session answers old new

-- each stage of the node was, one stage after the other
pub record GoesThrough (node term session : ℕ) (old new : Played) : Type 0 where
  pub drawn : Played
  pub settled : Played
  pub request : MakesSteps node term Request session old drawn
  pub persist : MakesSteps node term Persist session drawn settled
  pub reply : MakesSteps node term Reply session settled new
