-- What the code's parts stand for in the machine.
use Rattle.std.specs.Prelude.{◌≡◌, Option, None, Some}
use Rattle.system_parts.specs.declared.session.State.{State}
use Rattle.system_parts.specs.declared.session.State.TheVariants.{OpenOutcome, Completing}
use Rattle.system_parts.specs.KeyRead.{Reading}
use Rattle.machine.specs.State as machine
use Rattle.event_parts.specs.declared.client.UnderWay.{UnderWay}
use Rattle.event_parts.specs.declared.client.UnderWay.TheVariants as work

-- a read that has its answer is under way no longer
abbrev pub reading_way : Option Reading → machine.UnderWay
reading_way None = machine.Nothing
reading_way (Some reading) = machine.Reads reading

abbrev pub way_of : UnderWay → machine.UnderWay
way_of work.Nothing = machine.Nothing
way_of (work.Reads run) = reading_way run.reading
way_of (work.Settles settle) = machine.Settles settle
way_of (work.Completes asks) = machine.Completes asks

-- the transaction is finished or undone
abbrev pub IsCompleting : State → Type 0
IsCompleting (Completing undo) = Unit {0}
IsCompleting _ = ⊥

-- a resolve is under way only while the outcome of the own commit is open, a completion only while the session completes
abbrev pub FitsState : machine.UnderWay → State → Type 0
FitsState (machine.Settles settling) state = state ≡ OpenOutcome
FitsState (machine.Completes asks) state = IsCompleting state
FitsState _ state = Unit {0}
