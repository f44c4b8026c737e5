-- How many events the run of a line can still make, at most.
use Rattle.std.specs.Prelude.{ℕ, ◌+◌, ◌*◌, ◌==◌, Bool, false, ◌&&◌, if◌then◌else◌, List, length, slice_get, Option, None, Some, is_none}
use Rattle.history_book.specs.declared.item.Actor.{Actor}
use Rattle.history_book.specs.declared.item.Actor.TheVariants.{Clock, Node, Session, Janitor}
use Rattle.system_parts.specs.Rows.{Row, fetched, front_of, keys_of_version}
use Rattle.system_parts.specs.SessionSteps.{handed_commit}
use Rattle.system_parts.specs.Resolve.{settle_left}
use Rattle.system_parts.specs.KeyRead.{read_left}
use Rattle.system_parts.specs.Sweep.{SweepPoint, Table, Marking, Listing, Left, Undecided, Sweeping}
use Rattle.system_parts.specs.declared.instance.Place.{Place}
use Rattle.system_parts.specs.declared.instance.Place.TheVariants as place
use Rattle.system_parts.specs.Instance.{InstanceEntry}
use Rattle.machine.specs.State.{UnderWay, Nothing, Reads as UnderRead, Settles, Completes, Client, State}
use Rattle.machine.specs.Events.Step.{work_of}
use Rattle.machine.specs.Readers.{place_of}
use Rattle.script_data.specs.declared.line.Verb.{Verb}
use Rattle.script_data.specs.declared.line.Verb.TheVariants as verb
use Rattle.command_semantics.specs.declared.point.Point.{Point}
use Rattle.command_semantics.specs.declared.point.Point.TheVariants.{Opens, Drives, Extends, Finishes, Reads, Steps, Over}

-- ---- a client
-- the steps of a completion
abbrev pub asks_left : UnderWay → ℕ
asks_left (Completes asks) = length asks
asks_left _ = 0

-- the steps of a read
abbrev pub reads_left : UnderWay → ℕ
reads_left (UnderRead r) = read_left r
reads_left _ = 0

-- the steps of what is under way; the resolve of an own commit is followed by a completion of its keys
abbrev pub steps_left : ℕ → UnderWay → ℕ
steps_left keys Nothing = 0
steps_left keys (UnderRead r) = read_left r
steps_left keys (Settles x) = settle_left x.point + keys + 1
steps_left keys (Completes asks) = length asks

-- a placing is followed by a completion of the keys
abbrev pub steps_due : ℕ → Option (ℕ × ℕ) → ℕ → ℕ
steps_due keys None left = left
steps_due keys (Some stamps) left = keys + 2

-- a client is asked for a number, which is 0 where there is none
abbrev pub of_client : Option Client → (Client → ℕ) → ℕ
of_client None f = 0
of_client (Some c) f = f c

abbrev pub keys_of : Client → ℕ
keys_of c = length c.entry.keys

abbrev pub client_completes : Client → ℕ
client_completes c = asks_left c.under_way

-- what may come of a client once its request or its transaction ends: a placing, and a completion of its keys
abbrev pub client_ends : Client → ℕ
client_ends c = keys_of c + 2 + client_completes c

-- what is left to a client without a request
abbrev pub client_settles : Client → ℕ
client_settles c = steps_due (keys_of c) (handed_commit c.entry) (client_completes c)

abbrev pub client_reads : Client → ℕ
client_reads c = reads_left c.under_way

abbrev pub client_steps : Client → ℕ
client_steps c = steps_due (keys_of c) (handed_commit c.entry) (steps_left (keys_of c) (work_of c))

-- the cells that a fetch of the key would give the client
abbrev pub cells_by : List Row → ℕ → Option ℕ → ℕ
cells_by rows key None = 0
cells_by rows key (Some start) = length (front_of start (fetched rows key start))

abbrev pub client_fetches : List Row → ℕ → Client → ℕ
client_fetches rows key c = 3 * cells_by rows key c.entry.start + client_reads c

-- ---- a request
-- the instance has no stamp left, and no refusal of a further range that it keeps
abbrev pub lacks_stamps : InstanceEntry → Bool
lacks_stamps i = (i.last == i.ceiling) && is_none i.stop

abbrev pub lacks_at : Option (Option InstanceEntry) → Bool
lacks_at (Some (Some i)) = lacks_stamps i
lacks_at _ = false

-- accept, decide, extend and decide again, put, answer
abbrev pub place_left : Bool → Place → ℕ
place_left lacks place.Asked = 6
place_left lacks place.Accepted = if lacks then 5 else 3
place_left lacks place.Drawn = 2
place_left lacks place.Settled = 1

abbrev pub request_left : State → Option (ℕ × Place) → ℕ
request_left w None = 0
request_left w (Some request) = place_left (lacks_at (slice_get w.nodes request.0)) request.1

-- with what may come after the request has ended; where there is none, only the placing and the completion
abbrev pub drive_left_by : State → Option Client → Option (ℕ × Place) → ℕ
drive_left_by w c None = of_client c client_settles
drive_left_by w c (Some request) = request_left w (Some request) + of_client c client_ends

abbrev pub drive_left : State → ℕ → ℕ
drive_left w session = drive_left_by w (slice_get w.clients session) (place_of w session)

-- ---- a session's line
abbrev pub opening_left : State → Verb → Option Client → ℕ → ℕ
opening_left w (verb.Begin target) c driven = 8 + of_client c client_ends
opening_left w (verb.Commit target) c driven = 8 + of_client c client_ends
opening_left w (verb.Submit target) c driven = 8 + of_client c client_ends
opening_left w (verb.Write key value) c driven = 2 + of_client c client_ends
opening_left w verb.Abort c driven = 1 + of_client c client_ends
opening_left w (verb.Read key) c driven = 1 + of_client c (client_fetches w.rows key)
opening_left w verb.Collect c driven = 1 + driven
opening_left w verb.Finish c driven = 1 + of_client c client_steps
opening_left w _ c driven = 1

abbrev pub session_left : State → ℕ → Verb → Point → ℕ
session_left w session verb Opens = opening_left w verb (slice_get w.clients session) (drive_left w session)
session_left w session verb Drives = drive_left w session
session_left w session verb Extends = 4 + of_client (slice_get w.clients session) client_ends
session_left w session verb Finishes = of_client (slice_get w.clients session) client_completes
session_left w session verb Reads = of_client (slice_get w.clients session) client_reads
session_left w session verb Steps = of_client (slice_get w.clients session) client_steps
session_left w session verb Over = 0

-- ---- a sweep: the steps to the keys, and then one for each and at most one more
abbrev pub sweep_left_at : ℕ → SweepPoint → ℕ
sweep_left_at keys Table = keys + 4
sweep_left_at keys Marking = keys + 3
sweep_left_at keys (Listing found) = keys + 2
sweep_left_at keys (Left asks) = length asks
sweep_left_at keys Undecided = 0

abbrev pub sweep_left : List Row → Option Sweeping → ℕ
sweep_left rows None = 0
sweep_left rows (Some s) = sweep_left_at (length (keys_of_version rows s.txn)) s.point

abbrev pub janitor_opening_left : State → Verb → ℕ
janitor_opening_left w (verb.Sweep node txn) = length (keys_of_version w.rows txn) + 5 + sweep_left w.rows w.sweep
janitor_opening_left w verb.Finish = 1 + sweep_left w.rows w.sweep
janitor_opening_left w _ = 1

abbrev pub janitor_left : State → Verb → Point → ℕ
janitor_left w verb Opens = janitor_opening_left w verb
janitor_left w verb Steps = sweep_left w.rows w.sweep
janitor_left w verb _ = 0

-- ---- any line
abbrev pub one_left : Point → ℕ
one_left Opens = 1
one_left _ = 0

abbrev pub left : State → Actor → Verb → Point → ℕ
left w Clock verb point = one_left point
left w (Node node) verb point = one_left point
left w (Session session) verb point = session_left w session verb point
left w Janitor verb point = janitor_left w verb point
