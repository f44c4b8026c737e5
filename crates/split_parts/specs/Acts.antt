-- What an event makes of the parts that are lent to it.
use Rattle.std.specs.Prelude.{◌≡◌, ℕ, ◌+◌, List, Option, None, Some}
use Rattle.stamp_base.specs.declared.stores.Store.{Store}
use Rattle.machine.specs.declared.event.Event as machine
use Rattle.machine.specs.declared.event.Event.TheVariants as timed
use Rattle.machine.specs.Effect.{Stop, Refuses, Faults}
use Rattle.machine.specs.Machine.{Step, stepped, asks}
use Rattle.session_script.specs.PostedNames.{names_after}
use Rattle.event_parts.specs.declared.stopped.Stopped.{Stopped}
use Rattle.event_parts.specs.declared.stopped.Stopped.TheVariants.{Refused, StoreFault}
use Rattle.split_parts.specs.declared.acting.Acted.{Acted}
use Rattle.split_parts.specs.declared.event.Event.{Event}
use Rattle.split_parts.specs.declared.event.Event.TheVariants as event
use Rattle.split_parts.specs.Parts.{Parts, filled, given, given_from, base_by, holder_by, node_for, reading_of, fate_of, called}

-- the event of the machine: a tick goes up to the base clock with its rise, a reading is the base clock with the node's lead, and an
-- ask of the master is one of this node
abbrev pub timed_at : ℕ → List ℕ → ℕ → Event → machine.Event
timed_at base leads master (event.Tick by) = timed.Tick (base + by)
timed_at base leads master (event.Note actor note) = timed.Note actor note
timed_at base leads master (event.Take node) = timed.Take node (reading_of base leads node)
timed_at base leads master (event.Renew node) = timed.Renew node (reading_of base leads node)
timed_at base leads master (event.Extend node) = timed.Extend node
timed_at base leads master (event.Crash node) = timed.Crash node
timed_at base leads master (event.AskBegin session to) = timed.AskBegin session (node_for master to)
timed_at base leads master (event.AskCommit session to) = timed.AskCommit session (node_for master to)
timed_at base leads master (event.Accept node session) = timed.Accept node session (reading_of base leads node)
timed_at base leads master (event.Decide node session) = timed.Decide node session
timed_at base leads master (event.Put node session) = timed.Put node session
timed_at base leads master (event.Answer node session) = timed.Answer node session
timed_at base leads master (event.Write session key value) = timed.Write session key value
timed_at base leads master (event.Fetch session key) = timed.Fetch session key
timed_at base leads master (event.Step session) = timed.Step session
timed_at base leads master (event.Heal session) = timed.Heal session
timed_at base leads master (event.Abort session) = timed.Abort session
timed_at base leads master (event.Vanish session) = timed.Vanish session
timed_at base leads master (event.SweepOpen node txn) = timed.SweepOpen node txn
timed_at base leads master event.SweepStep = timed.SweepStep

-- at the lent base clock and the lent record, by the leads of the plan
abbrev pub timed_by : Parts → Event → machine.Event
timed_by l e = timed_at (base_by l.clock) l.plan.leads (holder_by l.master) e

-- the store that the event asks of the parts
abbrev pub asked_of : Parts → machine.Event → Option Store
asked_of l e = asks (filled l) e

-- the step of the filled state, under the planned fate of the call that the event makes
abbrev pub step_of : Parts → machine.Event → Step
step_of l e = stepped (filled l) e (fate_of l (asked_of l e))

abbrev pub names_noted : Option (List (List ℕ)) → machine.Event → Option (List (List ℕ))
names_noted None e = None
names_noted (Some names) e = Some (names_after names e)

-- a tick sets the base clock, and a note that posts a name joins it to the names
abbrev pub noted : machine.Event → Parts → Parts
noted (timed.Tick to) l = record l { clock = given l.clock to }
noted (timed.Note actor note) l = record l { names = names_noted l.names (timed.Note actor note) }
noted _ l = l

-- the lent parts after the event: those of the next state, with the call counted, and the event noted
abbrev pub parts_after : Parts → machine.Event → Parts
parts_after l e = noted e (called (asked_of l e) (given_from l (step_of l e).state))

-- how the event's method answers, where it is not done
abbrev pub stopped_of : Option Stop → Option Stopped
stopped_of None = None
stopped_of (Some (Refuses why)) = Some (Refused why)
stopped_of (Some (Faults store)) = Some (StoreFault store)

-- the items are those of the step, and the parts are those after it
pub record Acts (l now : Parts) (e : machine.Event) (acted : Acted) : Type 0 where
  pub items : acted.items.items ≡ (step_of l e).items
  pub stopped : acted.stopped ≡ stopped_of (step_of l e).stop
  pub parts : now ≡ parts_after l e
