-- In which order a round asks for the steps of stages, and when it has asked for all.
use Rattle.std.specs.Prelude.{◌≡◌, ℕ, ◌+◌, ◌*◌, Bool, true, false, List, map}
use Rattle.stamp_base.specs.declared.numbers.TheConstants.SessionNo as sessions
use Rattle.stamp_base.specs.declared.stage.Stage.{Stage}
use Rattle.stamp_base.specs.declared.stage.Stage.TheVariants.{Request, Persist, Reply}
use Rattle.history_book.specs.declared.cause.Cause.TheVariants.{NotYet}
use Rattle.thread_steps.specs.Done.{Done}
use Rattle.thread_steps.specs.declared.stages.StageStep.{StageStep}
use Rattle.thread_steps.specs.declared.stages.StageStep.TheVariants.{Held, Stale, Refused, NoMemory}
use Rattle.run_driver.specs.declared.round.Asked.{Asked}
use Rattle.run_driver.specs.declared.round.Round.{Round}

abbrev pub place_of : Stage → ℕ
place_of Request = 0
place_of Persist = 1
place_of Reply = 2

-- so many steps come before those for a session at a node: node by node, session by session, of three stages each
abbrev pub steps_before : ℕ → ℕ → ℕ
steps_before node session = (node * sessions.COUNT + session) * 3

-- which step of a round it is
abbrev pub step_of : Asked → ℕ
step_of asked = steps_before asked.node asked.session + place_of asked.stage

-- the step made a turn, or found one that waits for nothing
abbrev pub is_made : StageStep → Bool
is_made Held = false
is_made (Stale found) = false
is_made (Refused (NotYet commit)) = false
is_made NoMemory = false
is_made step = true

-- each share counts as many lines as before
abbrev pub AreStill : List Done → List Done → Type 0
AreStill old new = map (λ share. share.amount) new ≡ map (λ share. share.amount) old

-- so many actors were carried on, and each stage of each node was asked for a step for each session, in this order
pub record IsWhole (nodes shares : ℕ) (round : Round) : Type 0 where
  pub actors : round.actors ≡ shares
  pub steps : round.steps ≡ steps_before nodes 0
