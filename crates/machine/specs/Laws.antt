-- What a reader of the machine's definitions may rely on, over every state, event and fate.
use Rattle.std.specs.Prelude.{◌≡◌, ℕ, Bool, true, false, IsTrue, List, [], ◌∷◌, slice_get, Option, None, Some, IfSome}
use Rattle.stamp_base.specs.declared.stores.Store.{Store}
use Rattle.stamp_base.specs.SetupNumbers.{SetupNumbers}
use Rattle.port_io.specs.declared.weather.Fate.{Fate}
use Rattle.port_io.specs.declared.weather.Fate.TheVariants.{Works, FailsUnchanged, FailsApplied}
use Rattle.history_book.specs.declared.cause.Cause.{Cause}
use Rattle.history_book.specs.declared.cause.Cause.TheVariants as cause
use Rattle.history_book.specs.declared.item.Actor.{Actor}
use Rattle.history_book.specs.declared.item.Item.{Item}
use Rattle.history_book.specs.declared.item.Item.TheVariants.{Refused}
use Rattle.system_parts.specs.declared.session.State.TheVariants.{Gone}
use Rattle.system_parts.specs.InstanceSteps.{IsStop}
use Rattle.system_parts.specs.Instance.{InstanceEntry, was_told_no_stamp, was_told_not_yet}
use Rattle.machine.specs.declared.event.Event.{Event}
use Rattle.machine.specs.declared.event.Event.TheVariants as event
use Rattle.machine.specs.State.{Client, State, opening}
use Rattle.machine.specs.Effect.{Stop, Refuses, Faults}
use Rattle.machine.specs.Machine.{stepped, asks, reading_of, seen_after}

-- ---- refusals of the master record
-- the node has this instance
abbrev pub InstanceAt : State → ℕ → InstanceEntry → Type 0
InstanceAt w node i = slice_get w.nodes node ≡ Some (Some i)

-- the instance keeps Replaced or Spent, or nothing
abbrev pub KeepsStop : InstanceEntry → Type 0
KeepsStop i = IfSome i.stop IsStop

abbrev pub KeepStops : State → Type 0
KeepStops w = (node : ℕ) (i : InstanceEntry) → InstanceAt w node i → KeepsStop i

-- so it is in each state that moves lead to
pub record StopsAreKept : Type 0 where
  pub opening : (setup : SetupNumbers) → KeepStops (opening setup)
  pub after : (w : State) (e : Event) (fate : Fate) → KeepStops w → KeepStops (stepped w e fate).state

-- ---- refusals
-- the refusal ends no request and no sweep, and no instance keeps it
abbrev pub leaves_all : Cause → Bool
leaves_all (cause.NoRequest session) = true
leaves_all (cause.NoOracle node) = true
leaves_all (cause.Full in_flight) = true
leaves_all (cause.Early reading until) = true
leaves_all (cause.Holding term) = true
leaves_all cause.NoTransaction = true
leaves_all cause.Busy = true
leaves_all cause.TooManyKeys = true
leaves_all cause.Gone = true
leaves_all cause.Idle = true
leaves_all _ = false

-- the state with the event's reading seen
abbrev pub state_seen : State → Event → State
state_seen w e = record w { seen = seen_after w.seen (reading_of e) }

-- some actor is told the cause, and nothing else is appended
abbrev pub TellsAlone : Cause → List Item → Type 0
TellsAlone why items = (actor : Actor) × (items ≡ Refused actor why ∷ [])

-- such a refusal changes nothing but the greatest reading, and is told
abbrev pub RefusalsLeaveAll : Type 0
RefusalsLeaveAll =
    (w : State) (e : Event) (fate : Fate) (why : Cause) → KeepStops w → (stepped w e fate).stop ≡ Some (Refuses why) → IsTrue (leaves_all why) → ((stepped w e fate).state ≡ state_seen w e) × TellsAlone why (stepped w e fate).items

-- ---- readings
-- the greatest reading is the greater of the last one and the event's
abbrev pub SeenGoesUp : Type 0
SeenGoesUp = (w : State) (e : Event) (fate : Fate) → (stepped w e fate).state.seen ≡ seen_after w.seen (reading_of e)

-- ---- the parts that an event touches
abbrev pub touches_clients : Event → Bool
touches_clients (event.Tick to) = false
touches_clients (event.Note actor note) = false
touches_clients (event.Take node reading) = false
touches_clients (event.Renew node reading) = false
touches_clients (event.Extend node) = false
touches_clients (event.Put node session) = false
touches_clients (event.SweepOpen node txn) = false
touches_clients event.SweepStep = false
touches_clients _ = true

abbrev pub touches_nodes : Event → Bool
touches_nodes (event.Take node reading) = true
touches_nodes (event.Renew node reading) = true
touches_nodes (event.Extend node) = true
touches_nodes (event.Crash node) = true
touches_nodes (event.AskBegin session node) = true
touches_nodes (event.AskCommit session node) = true
touches_nodes (event.Accept node session reading) = true
touches_nodes (event.Decide node session) = true
touches_nodes (event.Put node session) = true
touches_nodes (event.Answer node session) = true
touches_nodes _ = false

abbrev pub touches_sweep : Event → Bool
touches_sweep (event.SweepOpen node txn) = true
touches_sweep event.SweepStep = true
touches_sweep _ = false

abbrev pub touches_rows : Event → Bool
touches_rows (event.Write session key value) = true
touches_rows (event.Step session) = true
touches_rows (event.Heal session) = true
touches_rows event.SweepStep = true
touches_rows _ = false

abbrev pub touches_pairs : Event → Bool
touches_pairs (event.Put node session) = true
touches_pairs (event.Step session) = true
touches_pairs event.SweepStep = true
touches_pairs _ = false

abbrev pub touches_master : Event → Bool
touches_master (event.Take node reading) = true
touches_master (event.Renew node reading) = true
touches_master (event.Extend node) = true
touches_master _ = false

-- what an event does not touch stays as it was
pub record LeavesParts (e : Event) (old new : State) : Type 0 where
  pub setup : new.setup ≡ old.setup
  pub clients : touches_clients e ≡ false → new.clients ≡ old.clients
  pub nodes : touches_nodes e ≡ false → new.nodes ≡ old.nodes
  pub sweep : touches_sweep e ≡ false → new.sweep ≡ old.sweep
  pub rows : touches_rows e ≡ false → new.rows ≡ old.rows
  pub pairs : touches_pairs e ≡ false → new.pairs ≡ old.pairs
  pub master : touches_master e ≡ false → new.master ≡ old.master

abbrev pub EventsLeaveParts : Type 0
EventsLeaveParts = (w : State) (e : Event) (fate : Fate) → LeavesParts e w (stepped w e fate).state

-- ---- store calls
-- the event stopped since this store failed
abbrev pub IsFaultOf : Store → Option Stop → Type 0
IsFaultOf store stop = stop ≡ Some (Faults store)

-- where no store is asked the fate does not matter; where one is, the event fails exactly where its call does
pub record AsksExactly (w : State) (e : Event) : Type 0 where
  pub none : asks w e ≡ None → (fate other : Fate) → stepped w e fate ≡ stepped w e other
  pub unchanged : (store : Store) → asks w e ≡ Some store → IsFaultOf store (stepped w e FailsUnchanged).stop
  pub applied : (store : Store) → asks w e ≡ Some store → IsFaultOf store (stepped w e FailsApplied).stop
  pub works : (store : Store) → (stepped w e Works).stop ≡ Some (Faults store) → ⊥

abbrev pub StoresAreAskedOnce : Type 0
StoresAreAskedOnce = (w : State) (e : Event) → AsksExactly w e

-- ---- what a request is told once
-- a request that was told NoStamp is told it again by an answer alone, and one that is told it now was told from then on
pub record TellsNoStampOnce (w : State) (node session : ℕ) (i : InstanceEntry) : Type 0 where
  pub once : (fate : Fate) (last : ℕ) → was_told_no_stamp i session ≡ true → (stepped w (event.Decide node session) fate).stop ≡ Some (Refuses (cause.NoStamp last)) → (stepped w (event.Decide node session) fate).items ≡ []
  pub kept : KeepsStop i → (fate : Fate) (last : ℕ) (left : InstanceEntry) → (stepped w (event.Decide node session) fate).stop ≡ Some (Refuses (cause.NoStamp last)) → InstanceAt (stepped w (event.Decide node session) fate).state node left → was_told_no_stamp left session ≡ true

pub record TellsNotYetOnce (w : State) (node session : ℕ) (i : InstanceEntry) : Type 0 where
  pub once : (fate : Fate) (commit : ℕ) → was_told_not_yet i session ≡ true → (stepped w (event.Answer node session) fate).stop ≡ Some (Refuses (cause.NotYet commit)) → (stepped w (event.Answer node session) fate).items ≡ []
  pub kept : (fate : Fate) (commit : ℕ) (left : InstanceEntry) → (stepped w (event.Answer node session) fate).stop ≡ Some (Refuses (cause.NotYet commit)) → InstanceAt (stepped w (event.Answer node session) fate).state node left → was_told_not_yet left session ≡ true

abbrev pub RequestsAreToldOnce : Type 0
RequestsAreToldOnce = (w : State) (node session : ℕ) (i : InstanceEntry) → InstanceAt w node i → TellsNoStampOnce w node session i × TellsNotYetOnce w node session i

-- ---- sessions that have vanished
abbrev pub IsGoneAt : State → ℕ → Type 0
IsGoneAt w session = IfSome (slice_get w.clients session) (λ c. c.entry.state ≡ Gone)

abbrev pub GoneStaysGone : Type 0
GoneStaysGone = (w : State) (e : Event) (fate : Fate) (session : ℕ) (c : Client) → slice_get w.clients session ≡ Some c → c.entry.state ≡ Gone → IsGoneAt (stepped w e fate).state session
