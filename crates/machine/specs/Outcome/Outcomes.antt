-- All that an event of the machine comes to, with the state that it leaves and the items that it appends.
use Rattle.std.specs.Prelude.{◌≡◌, ℕ, [], List, Option, Some}
use Rattle.history_book.specs.declared.item.Item.{Item}
use Rattle.machine.specs.State.{State}
use Rattle.machine.specs.Outcome.OutcomesOfRecord.{Still, still_state, Granted, granted_state, Renewed, renewed_state, Extended, extended_state}
use Rattle.machine.specs.Outcome.OutcomesOfRequests.{Crashed, crashed_state, AskedBegin, asked_begin_state, asked_begin_items, AskedCommit, asked_commit_state, Accepted, AcceptedSteadily, accepted_state, Ended, ended_state}
use Rattle.machine.specs.Outcome.OutcomesOfStamps.{Drew, drew_state, drew_items, PlacedOne, placed_state, placed_items, NotPlaced, not_placed_state, AnsweredBegin, answered_begin_state, answered_begin_items, AnsweredCommit, answered_commit_state, HandedOver, handed_over_state}
use Rattle.machine.specs.Outcome.OutcomesOfPlacings.{OwnPlaced, own_placed_state, own_placed_items, OwnNotPlaced, own_not_placed_state}
use Rattle.machine.specs.Outcome.OutcomesOfSessions.{EndedReadOnly, read_only_state, WroteOne, wrote_state, wrote_items, WriteFailed, write_failed_state, Aborted, aborted_state, Vanished, vanished_state, Healed, healed_state}
use Rattle.machine.specs.Outcome.OutcomesOfWork.{Fetched, fetched_state, fetched_items, ReadDropped, read_dropped_state, ReadStepped, read_stepped_state, read_stepped_items, OutcomeStepped, outcome_state, OutcomeFailed, outcome_failed_state, CompletedOne, completed_state}
use Rattle.machine.specs.Outcome.OutcomesOfSweeps.{SweepOpened, sweep_opened_state, SweptOne, swept_state, SweepListed, sweep_listed_state, sweep_listed_items, SweepFailed, sweep_failed_state}
pub use Rattle.machine.specs.Outcome.OutcomesOfStamps.{AtDrawn}

-- ---- all outcomes
pub data Outcome (w : State) : Type 0 where
  OfStill : Still w → Outcome w
  OfGranted : Granted w → Outcome w
  OfRenewed : Renewed w → Outcome w
  OfExtended : Extended w → Outcome w
  OfCrashed : Crashed w → Outcome w
  OfAskedBegin : AskedBegin w → Outcome w
  OfAskedCommit : AskedCommit w → Outcome w
  OfAccepted : Accepted w → Outcome w
  OfEnded : Ended w → Outcome w
  OfDrew : Drew w → Outcome w
  OfPlaced : PlacedOne w → Outcome w
  OfNotPlaced : NotPlaced w → Outcome w
  OfAnsweredBegin : AnsweredBegin w → Outcome w
  OfAnsweredCommit : AnsweredCommit w → Outcome w
  OfHanded : HandedOver w → Outcome w
  OfOwnPlaced : OwnPlaced w → Outcome w
  OfOwnNotPlaced : OwnNotPlaced w → Outcome w
  OfEndedReadOnly : EndedReadOnly w → Outcome w
  OfWrote : WroteOne w → Outcome w
  OfWriteFailed : WriteFailed w → Outcome w
  OfAborted : Aborted w → Outcome w
  OfVanished : Vanished w → Outcome w
  OfHealed : Healed w → Outcome w
  OfFetched : Fetched w → Outcome w
  OfReadDropped : ReadDropped w → Outcome w
  OfReadStepped : ReadStepped w → Outcome w
  OfOutcome : OutcomeStepped w → Outcome w
  OfOutcomeFailed : OutcomeFailed w → Outcome w
  OfCompleted : CompletedOne w → Outcome w
  OfSweepOpened : SweepOpened w → Outcome w
  OfSwept : SweptOne w → Outcome w
  OfSweepListed : SweepListed w → Outcome w
  OfSweepFailed : SweepFailed w → Outcome w

abbrev pub left_by : (w : State) → Outcome w → State
left_by w (OfStill k) = still_state w k
left_by w (OfGranted k) = granted_state w k
left_by w (OfRenewed k) = renewed_state w k
left_by w (OfExtended k) = extended_state w k
left_by w (OfCrashed k) = crashed_state w k
left_by w (OfAskedBegin k) = asked_begin_state w k
left_by w (OfAskedCommit k) = asked_commit_state w k
left_by w (OfAccepted k) = accepted_state w k
left_by w (OfEnded k) = ended_state w k
left_by w (OfDrew k) = drew_state w k
left_by w (OfPlaced k) = placed_state w k
left_by w (OfNotPlaced k) = not_placed_state w k
left_by w (OfAnsweredBegin k) = answered_begin_state w k
left_by w (OfAnsweredCommit k) = answered_commit_state w k
left_by w (OfHanded k) = handed_over_state w k
left_by w (OfOwnPlaced k) = own_placed_state w k
left_by w (OfOwnNotPlaced k) = own_not_placed_state w k
left_by w (OfEndedReadOnly k) = read_only_state w k
left_by w (OfWrote k) = wrote_state w k
left_by w (OfWriteFailed k) = write_failed_state w k
left_by w (OfAborted k) = aborted_state w k
left_by w (OfVanished k) = vanished_state w k
left_by w (OfHealed k) = healed_state w k
left_by w (OfFetched k) = fetched_state w k
left_by w (OfReadDropped k) = read_dropped_state w k
left_by w (OfReadStepped k) = read_stepped_state w k
left_by w (OfOutcome k) = outcome_state w k
left_by w (OfOutcomeFailed k) = outcome_failed_state w k
left_by w (OfCompleted k) = completed_state w k
left_by w (OfSweepOpened k) = sweep_opened_state w k
left_by w (OfSwept k) = swept_state w k
left_by w (OfSweepListed k) = sweep_listed_state w k
left_by w (OfSweepFailed k) = sweep_failed_state w k

abbrev pub told_by_outcome : (w : State) → Outcome w → List Item
told_by_outcome w (OfStill k) = k.items
told_by_outcome w (OfGranted k) = k.items
told_by_outcome w (OfRenewed k) = k.items
told_by_outcome w (OfExtended k) = k.items
told_by_outcome w (OfCrashed k) = k.items
told_by_outcome w (OfAskedBegin k) = asked_begin_items w k
told_by_outcome w (OfAskedCommit k) = k.items
told_by_outcome w (OfAccepted k) = k.items
told_by_outcome w (OfEnded k) = k.items
told_by_outcome w (OfDrew k) = drew_items w k
told_by_outcome w (OfPlaced k) = placed_items w k
told_by_outcome w (OfNotPlaced k) = k.items
told_by_outcome w (OfAnsweredBegin k) = answered_begin_items w k
told_by_outcome w (OfAnsweredCommit k) = k.items
told_by_outcome w (OfHanded k) = k.items
told_by_outcome w (OfOwnPlaced k) = own_placed_items w k
told_by_outcome w (OfOwnNotPlaced k) = k.items
told_by_outcome w (OfEndedReadOnly k) = k.items
told_by_outcome w (OfWrote k) = wrote_items w k
told_by_outcome w (OfWriteFailed k) = k.items
told_by_outcome w (OfAborted k) = k.items
told_by_outcome w (OfVanished k) = k.items
told_by_outcome w (OfHealed k) = k.items
told_by_outcome w (OfFetched k) = fetched_items w k
told_by_outcome w (OfReadDropped k) = k.items
told_by_outcome w (OfReadStepped k) = read_stepped_items w k
told_by_outcome w (OfOutcome k) = k.items
told_by_outcome w (OfOutcomeFailed k) = k.items
told_by_outcome w (OfCompleted k) = k.items
told_by_outcome w (OfSweepOpened k) = []
told_by_outcome w (OfSwept k) = k.items
told_by_outcome w (OfSweepListed k) = sweep_listed_items w k
told_by_outcome w (OfSweepFailed k) = k.items

-- ---- what the facts ask of an outcome: a request is accepted at a steady reading
abbrev pub IsTimely : (w : State) → Outcome w → Type 0
IsTimely w (OfAccepted k) = AcceptedSteadily w k
IsTimely w _ = Unit {0}

-- the reading at which a request was accepted is the one that the event handed in
abbrev pub AcceptsAt : {w : State} → Option ℕ → Outcome w → Type 0
AcceptsAt handed (OfAccepted k) = handed ≡ Some k.reading
AcceptsAt handed _ = Unit {0}
