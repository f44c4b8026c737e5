-- What one event makes of a script run.
use Rattle.std.specs.Prelude.{◌≡◌, ◌⊎◌, Bool, true, false, List, [], ◌∷◌, map, slice_set, Option, None, Some, Result, Ok, Err}
use Rattle.history_book.specs.declared.item.Item.{Item}
use Rattle.machine.specs.declared.event.Event.{Event}
use Rattle.machine.specs.declared.event.Event.TheVariants as event
use Rattle.machine.specs.Effect.{Stop, Refuses, Faults}
use Rattle.command_semantics.specs.declared.point.Interruption.{Interruption}
use Rattle.command_semantics.specs.declared.point.Interruption.TheVariants as halt
use Rattle.command_semantics.specs.Interruptions.{refused_by}
use Rattle.turn_rules.specs.declared.turn.Turn.TheVariants as turn
use Rattle.machine.specs.Machine.{Step}
use Rattle.event_parts.specs.declared.stopped.Stopped.{Stopped}
use Rattle.event_parts.specs.declared.stopped.Stopped.TheVariants.{Refused, StoreFault, NoMemory}
use Rattle.command_semantics.specs.Runs.{step_of}
use Rattle.turn_rules.specs.declared.turn.Turn.{Turn}
use Rattle.turn_rules.specs.Lawful.{IsLawful, IsTold}
use Rattle.run_board.specs.Run.{Ran, reached_by, with_turn}

-- the step that an event makes where the run stands
abbrev pub step_in : Ran → Event → Step
step_in r event = step_of r.script (reached_by r).played event

-- the event is not to be told: it appended nothing, and all is as before
pub record IsLeftOut (old : Ran) (event : Event) (new : Ran) : Type 0 where
  pub untold : IsTold old.script (reached_by old).played event → ⊥
  pub none : (step_in old event).items ≡ []
  pub same : new ≡ old

-- the turn was lawful and was made, or it was left out
abbrev pub TurnsBy : Ran → Turn → Event → Ran → Type 0
TurnsBy old turn event new = (IsLawful old.script (reached_by old) turn × (new ≡ with_turn old turn)) ⊎ IsLeftOut old event new

-- the turn was made or left out, and its event stopped so
pub record MakesTurn (old : Ran) (turn : Turn) (event : Event) (stop : Option Stop) (new : Ran) : Type 0 where
  pub stopped : (step_in old event).stop ≡ stop
  pub made : TurnsBy old turn event new

abbrev pub Makes : Ran → Turn → Event → Result Unit Stopped → Ran → Type 0
Makes old turn event (Ok _) new = MakesTurn old turn event None new
Makes old turn event (Err (Refused why)) new = MakesTurn old turn event (Some (Refuses why)) new
Makes old turn event (Err (StoreFault store)) new = MakesTurn old turn event (Some (Faults store)) new
Makes old turn event (Err NoMemory) new = new ≡ old

-- ---- what the code looks at
-- how a call answered that its event stopped, if it was made
abbrev pub halted : Result Unit Stopped → Option (Option Interruption)
halted (Ok _) = Some None
halted (Err (Refused why)) = Some (Some (refused_by why))
halted (Err (StoreFault store)) = Some (Some halt.Faulted)
halted (Err NoMemory) = None

abbrev pub has_some : List Item → Bool
has_some [] = false
has_some (x ∷ xs) = true

-- an event that appends nothing is not told, unless it opens a sweep
abbrev pub is_told : Event → List Item → Bool
is_told (event.SweepOpen node txn) items = true
is_told _ items = has_some items

abbrev pub finds_no_stamp : Option Interruption → Bool
finds_no_stamp (Some halt.NoStamp) = true
finds_no_stamp _ = false

-- whether a node's last decision found no stamp
abbrev pub lacking_after : List Bool → Turn → Option Interruption → List Bool
lacking_after lacking (turn.Decide node session) (Some halt.NoStamp) = slice_set lacking node true
lacking_after lacking _ _ = lacking

-- none is noted to
abbrev pub cleared : List Bool → List Bool
cleared lacking = map (λ lacks. false) lacking

-- ---- room for turns
-- the turn serves a request that was accepted, which has room for it
abbrev pub serves : Turn → Bool
serves (turn.Decide node session) = true
serves (turn.Put node session) = true
serves (turn.Answer node session) = true
serves _ = false
