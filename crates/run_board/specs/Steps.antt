-- What an actor's step and a stage's step make of a script run.
use Rattle.std.specs.Prelude.{◌≡◌, ◌≢◌, ◌⊎◌, ℕ, Bool, true, false, List, [], ◌∷◌, Option, None, Some, is_some, IsSomeAnd, slice_get}
use Rattle.stamp_base.specs.declared.stage.Stage.{Stage}
use Rattle.stamp_base.specs.declared.stage.Stage.TheVariants.{Request}
use Rattle.history_book.specs.declared.item.Actor.{Actor}
use Rattle.history_book.specs.declared.item.Item.{Item}
use Rattle.history_book.specs.declared.item.Item.TheVariants as item
use Rattle.machine.specs.declared.event.Event.{Event}
use Rattle.machine.specs.Effect.{Stop, Refuses, Faults}
use Rattle.machine.specs.Readers.{term_of}
use Rattle.machine.specs.State.{State}
use Rattle.turn_rules.specs.declared.ahead.NextAction.TheVariants.{Waits}
use Rattle.turn_rules.specs.declared.turn.Turn.{Turn}
use Rattle.turn_rules.specs.declared.turn.Turn.TheVariants as turn
use Rattle.turn_rules.specs.Seats.{lines_of}
use Rattle.turn_rules.specs.Carried.{seat_of, own_ahead, event_of, is_held, holds_at}
use Rattle.turn_rules.specs.Lawful.{IsLawful, IsInPlace, stage_of, session_view, stage_turn}
pub use Rattle.thread_scripts.specs.Places.{place_in}
use Rattle.run_board.specs.declared.answers.Advance.{Advance}
use Rattle.run_board.specs.declared.answers.Advance.TheVariants as advance
use Rattle.thread_steps.specs.declared.stages.StageStep.{StageStep}
use Rattle.thread_steps.specs.declared.stages.StageStep.TheVariants as step
use Rattle.run_board.specs.Run.{Ran, reached_by, with_turn, IsToldUsedUp}
use Rattle.run_board.specs.Making.{step_in, MakesTurn, serves}

abbrev pub state_of : Ran → State
state_of r = (reached_by r).played.state

-- ---- the places of the actors
-- so many lines of the actor are passed
abbrev pub place_of : Ran → Actor → ℕ
place_of r actor = place_in (seat_of (reached_by r).seats actor)

-- the actor has no line left
abbrev pub HasEnded : Ran → Actor → Type 0
HasEnded r actor = slice_get (lines_of r.script actor) (place_of r actor) ≡ None

-- the node's stage has a turn to make of the session's request as it stands
abbrev pub has_turn : State → ℕ → Stage → ℕ → Bool
has_turn w node stage session = is_some (stage_turn stage node session (session_view w session))

-- ---- an actor's step
-- the node that items ask
unfoldable pub node_asked : List Item → Option ℕ
node_asked [] = None
node_asked (item.AskBegin session node ∷ items) = Some node
node_asked (item.AskCommit session node start ∷ items) = Some node
node_asked (other ∷ items) = node_asked items

abbrev pub and_term : ℕ → Option ℕ → Option (ℕ × ℕ)
and_term node None = None
and_term node (Some term) = Some (node, term)

abbrev pub asked_of : State → Option ℕ → Option (ℕ × ℕ)
asked_of w None = None
asked_of w (Some node) = and_term node (term_of w node)

-- exactly one turn was made, the actor's own with this aim; it asked this, if it asked
pub record MakesOwn (old : Ran) (actor : Actor) (aim : ℕ) (asked : Option (ℕ × ℕ)) (new : Ran) : Type 0 where
  pub lawful : IsLawful old.script (reached_by old) (turn.Own actor aim)
  pub turns : new ≡ with_turn old (turn.Own actor aim)
  pub asks : IsSomeAnd (event_of old.script (reached_by old) (turn.Own actor aim)) (λ e. asked ≡ asked_of (state_of new) (node_asked (step_in old e).items))

abbrev pub Advances : Ran → Actor → ℕ → Advance → Ran → Type 0
Advances old actor aim (advance.Did asked) new = MakesOwn old actor aim asked new
Advances old actor aim (advance.Waits why) new = (own_ahead old.script (reached_by old) actor aim ≡ Waits why) × (new ≡ old)
Advances old actor aim advance.Ended new = HasEnded old actor × (new ≡ old)
Advances old actor aim advance.NoMemory new = new ≡ old

-- ---- a stage's step
abbrev pub IsStageHeld : Ran → ℕ → Stage → Bool
IsStageHeld r node stage = is_held (holds_at (reached_by r).held node) stage

-- the node's oracle is of another term, or the session has no request in a place of the stage there
abbrev pub IsStale : Ran → ℕ → ℕ → Stage → ℕ → Type 0
IsStale r node term stage session = (term_of (state_of r) node ≢ Some term) ⊎ (stage_turn stage node session (session_view (state_of r) session) ≡ None)

-- the stamps that a draw tells
unfoldable pub drawn_in : List Item → Option (ℕ × Option ℕ)
drawn_in [] = None
drawn_in (item.Draw session node term start commit ∷ items) = Some (start, commit)
drawn_in (other ∷ items) = drawn_in items

abbrev pub did : Option (ℕ × Option ℕ) → StageStep
did None = step.Went
did (Some stamps) = step.Did stamps.0 stamps.1

-- how a turn is told, by the items of its event
abbrev pub done_by : Turn → List Item → StageStep
done_by (turn.Decide node session) items = did (drawn_in items)
done_by (turn.Put node session) items = step.Settled
done_by (turn.Answer node session) items = step.Answered
done_by other items = step.Went

abbrev pub told_by : Turn → List Item → Option Stop → StageStep
told_by turn items None = done_by turn items
told_by turn items (Some (Refuses why)) = step.Refused why
told_by turn items (Some (Faults store)) = step.Fault

-- the turn's event was made, and it is told so
pub record TellsTurn (old : Ran) (by : Turn) (e : Event) (result : StageStep) (new : Ran) : Type 0 where
  pub stop : Option Stop
  pub made : MakesTurn old by e stop new
  pub told : result ≡ told_by by (step_in old e).items stop

abbrev pub ServesBy : Ran → Turn → Event → StageStep → Ran → Type 0
ServesBy old by e step.NoMemory new = new ≡ old
ServesBy old by e result new = TellsTurn old by e result new

-- the turn extends the node's range, since the request stands there before its decision and no stamp is left; a session whose request
-- waits there was told so, this one or another
pub record ExtendsFirst (r : Ran) (node : ℕ) (stage : Stage) (session : ℕ) (by : Turn) : Type 0 where
  pub extends : by ≡ turn.Extend node
  pub decides : stage_turn stage node session (session_view (state_of r) session) ≡ Some (turn.Decide node session)
  pub told : IsToldUsedUp (slice_get (state_of r).nodes node)

-- the turn is one of the stage, and its request stands where it is made; a request that is accepted where no stamp is left may be
-- served by an extension of the range
pub record IsServable (r : Ran) (node : ℕ) (stage : Stage) (session : ℕ) (by : Turn) : Type 0 where
  pub of_stage : stage_of by ≡ Some (node, stage)
  pub in_place : IsInPlace (state_of r) by
  pub of_session : (stage_turn stage node session (session_view (state_of r) session) ≡ Some by) ⊎ ExtendsFirst r node stage session by

-- one event of the stage was made for the session's request, and it is told so
pub record ServesOnce (old : Ran) (node term : ℕ) (stage : Stage) (session : ℕ) (result : StageStep) (new : Ran) : Type 0 where
  pub by : Turn
  pub free : IsStageHeld old node stage ≡ false
  pub of_term : term_of (state_of old) node ≡ Some term
  pub servable : IsServable old node stage session by
  pub told : IsSomeAnd (event_of old.script (reached_by old) by) (λ e. TellsTurn old by e result new)

abbrev pub Serves : Ran → ℕ → ℕ → Stage → ℕ → StageStep → Ran → Type 0
Serves old node term stage session step.Held new = (IsStageHeld old node stage ≡ true) × (new ≡ old)
Serves old node term stage session (step.Stale found) new = (IsStageHeld old node stage ≡ false) × IsStale old node term stage session × (found ≡ term_of (state_of old) node) × (new ≡ old)
Serves old node term stage session step.NoMemory new = (IsStageHeld old node stage ≡ false) × (new ≡ old)
Serves old node term stage session result new = ServesOnce old node term stage session result new

-- ---- where memory may be refused
-- the request stands before its decision at the node, whose range is used up and can be extended; a session whose request waits there
-- was told so, this one or another
pub record NeedsStamps (r : Ran) (node session : ℕ) : Type 0 where
  pub waits : IsInPlace (state_of r) (turn.Decide node session)
  pub lacks : IsInPlace (state_of r) (turn.Extend node)
  pub told : IsToldUsedUp (slice_get (state_of r).nodes node)

-- to a request stage alone: where it accepts the request, or where the request needs stamps and the range is extended
abbrev pub MayTakeMemory : Ran → ℕ → Stage → ℕ → Type 0
MayTakeMemory r node Request session = IsInPlace (state_of r) (turn.Accept node session) ⊎ NeedsStamps r node session
MayTakeMemory r node _ session = ⊥

abbrev pub LacksOnlyThere : Ran → ℕ → Stage → ℕ → StageStep → Type 0
LacksOnlyThere r node stage session step.NoMemory = MayTakeMemory r node stage session
LacksOnlyThere r node stage session result = Unit {0}

-- a turn that serves a request never lacks memory
abbrev pub LacksUnserved : Turn → StageStep → Type 0
LacksUnserved by step.NoMemory = serves by ≡ false
LacksUnserved by result = Unit {0}
