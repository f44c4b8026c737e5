-- One step of the machine, and the history of a list of moves. An event looks up the parts that it touches, and puts back
-- what its definition makes of them.
use Rattle.std.specs.Prelude.{ℕ, ◌+◌, ◌≤◌, ◌^◌, max, List, [], ◌∷◌, ◌++◌, slice_get, slice_set, Option, None, Some}
use Rattle.stamp_base.specs.declared.stores.Store.{Store}
use Rattle.stamp_base.specs.SetupNumbers.{SetupNumbers}
use Rattle.port_io.specs.declared.weather.Fate.{Fate}
use Rattle.history_book.specs.declared.item.Item.{Item}
use Rattle.system_parts.specs.Rows.{Row}
use Rattle.system_parts.specs.Pairs.{Pairs}
use Rattle.system_parts.specs.Record.{MasterRecord}
use Rattle.system_parts.specs.Sweep.{Sweeping}
use Rattle.system_parts.specs.Instance.{InstanceEntry}
use Rattle.machine.specs.declared.event.Event.{Event}
use Rattle.machine.specs.declared.event.Event.TheVariants as event
use Rattle.machine.specs.State.{Client, State, opening}
use Rattle.machine.specs.Effect.{Stop, Effect, done}
use Rattle.machine.specs.Events.Clock.{tick_items, note_items}
use Rattle.machine.specs.Events.Take.{take_on, take_asks}
use Rattle.machine.specs.Events.Renew.{renew_on, renew_asks}
use Rattle.machine.specs.Events.Extend.{extend_on, extend_asks}
use Rattle.machine.specs.Events.Crash.{crash_on}
use Rattle.machine.specs.Events.AskBegin.{ask_begin_on}
use Rattle.machine.specs.Events.AskCommit.{ask_commit_on}
use Rattle.machine.specs.Events.Accept.{accept_on}
use Rattle.machine.specs.Events.Decide.{decide_on}
use Rattle.machine.specs.Events.Put.{put_on, put_asks}
use Rattle.machine.specs.Events.Answer.{answer_on}
use Rattle.machine.specs.Events.Write.{write_on, write_asks}
use Rattle.machine.specs.Events.Fetch.{fetch_on, fetch_asks}
use Rattle.machine.specs.Events.Step.{StepParts, step_on, step_asks}
use Rattle.machine.specs.Events.Heal.{heal_on, heal_asks}
use Rattle.machine.specs.Events.Abort.{abort_on}
use Rattle.machine.specs.Events.Vanish.{vanish_on}
use Rattle.machine.specs.Events.SweepOpen.{sweep_open_on}
use Rattle.machine.specs.Events.SweepStep.{SweepParts, sweep_step_on, sweep_step_asks}

-- the next state, the items that an event appends, and how it stopped, if it did
pub record Step : Type 0 where
  pub state : State
  pub items : List Item
  pub stop : Option Stop

-- an effect on parts is a step of the whole, once the parts are put back
abbrev pub step_by : {P : Type 0} → Effect P → (P → State) → Step
step_by effect whole = record { state = whole effect.parts; items = effect.items; stop = effect.stop }

-- what names no node or session of the system does nothing
abbrev pub nothing : State → Step
nothing w = record { state = w; items = []; stop = None }

abbrev pub with_post : State → ℕ → Option InstanceEntry → State
with_post w node post = record w { nodes = slice_set w.nodes node post }

abbrev pub with_client : State → ℕ → Client → State
with_client w session c = record w { clients = slice_set w.clients session c }

-- the greatest reading after one more
abbrev pub with_reading : State → ℕ → State
with_reading w reading = record w { seen = max w.seen reading }

-- ---- looking up the parts
abbrev pub at_post : State → Option (Option InstanceEntry) → (Option InstanceEntry → Step) → Step
at_post w None f = nothing w
at_post w (Some post) f = f post

abbrev pub at_client : State → Option Client → (Client → Step) → Step
at_client w None f = nothing w
at_client w (Some c) f = f c

abbrev pub at_both : State → Option (Option InstanceEntry) → Option Client → (Option InstanceEntry → Client → Step) → Step
at_both w (Some post) (Some c) f = f post c
at_both w _ _ f = nothing w

-- ---- the kinds of events, by the parts that they touch
-- a node and the master record
abbrev pub on_record : State → ℕ → (Option InstanceEntry → Effect (Option InstanceEntry × MasterRecord)) → Step
on_record w node f = at_post w (slice_get w.nodes node) (λ post. step_by (f post) (λ p. record (with_post w node p.0) { master = p.1 }))

-- a node and all clients
abbrev pub on_clients : State → ℕ → (Option InstanceEntry → Effect (Option InstanceEntry × List Client)) → Step
on_clients w node f = at_post w (slice_get w.nodes node) (λ post. step_by (f post) (λ p. record (with_post w node p.0) { clients = p.1 }))

-- a client, and the node that it asks
abbrev pub on_ask : State → ℕ → ℕ → (Client → Option InstanceEntry → Effect (Client × Option InstanceEntry)) → Step
on_ask w session node f =
    at_both w (slice_get w.nodes node) (slice_get w.clients session) (λ post c. step_by (f c post) (λ p. with_client (with_post w node p.1) session p.0))

-- a node, and the client whose request it serves
abbrev pub on_request : State → ℕ → ℕ → (Option InstanceEntry → Client → Effect (Option InstanceEntry × Client)) → Step
on_request w node session f =
    at_both w (slice_get w.nodes node) (slice_get w.clients session) (λ post c. step_by (f post c) (λ p. with_client (with_post w node p.0) session p.1))

-- a node and the commit table
abbrev pub on_table : State → ℕ → (Option InstanceEntry → Effect (Option InstanceEntry × Pairs)) → Step
on_table w node f = at_post w (slice_get w.nodes node) (λ post. step_by (f post) (λ p. record (with_post w node p.0) { pairs = p.1 }))

-- a client alone
abbrev pub on_client : State → ℕ → (Client → Effect Client) → Step
on_client w session f = at_client w (slice_get w.clients session) (λ c. step_by (f c) (λ p. with_client w session p))

-- a client and the cells
abbrev pub on_cells : State → ℕ → (Client → Effect (Client × List Row)) → Step
on_cells w session f = at_client w (slice_get w.clients session) (λ c. step_by (f c) (λ p. record (with_client w session p.0) { rows = p.1 }))

-- a client, the cells and the commit table
abbrev pub on_stores : State → ℕ → (Client → Effect StepParts) → Step
on_stores w session f = at_client w (slice_get w.clients session) (λ c. step_by (f c) (λ p. record (with_client w session p.0) { rows = p.1; pairs = p.2 }))

-- the sweep, and a node's instance, which stays
abbrev pub on_sweep : State → ℕ → (Option InstanceEntry → Effect (Option Sweeping)) → Step
on_sweep w node f = at_post w (slice_get w.nodes node) (λ post. step_by (f post) (λ p. record w { sweep = p }))

-- the sweep and the stores
abbrev pub on_swept : State → Effect SweepParts → Step
on_swept w effect = step_by effect (λ p. record w { sweep = p.0; rows = p.1; pairs = p.2 })

-- ---- one event under a fate, which counts only where the event asks a store
abbrev pub stepped : State → Event → Fate → Step
stepped w (event.Tick to) fate = step_by (done w (tick_items to)) (λ p. p)
stepped w (event.Note actor note) fate = step_by (done w (note_items actor note)) (λ p. p)
stepped w (event.Take node reading) fate = on_record (with_reading w reading) node (λ post. take_on w.setup node reading fate post w.master)
stepped w (event.Renew node reading) fate = on_record (with_reading w reading) node (λ post. renew_on w.setup node reading fate post w.master)
stepped w (event.Extend node) fate = on_record w node (λ post. extend_on w.setup node fate post w.master)
stepped w (event.Crash node) fate = on_clients w node (λ post. crash_on node post w.clients)
stepped w (event.AskBegin session node) fate = on_ask w session node (ask_begin_on session node)
stepped w (event.AskCommit session node) fate = on_ask w session node (ask_commit_on session node)
stepped w (event.Accept node session reading) fate = on_request (with_reading w reading) node session (accept_on node session reading)
stepped w (event.Decide node session) fate = on_request w node session (decide_on node session)
stepped w (event.Put node session) fate = on_table w node (λ post. put_on node session fate post w.pairs)
stepped w (event.Answer node session) fate = on_request w node session (answer_on node session)
stepped w (event.Write session key value) fate = on_cells w session (λ c. write_on session key value fate c w.rows)
stepped w (event.Fetch session key) fate = on_client w session (λ c. fetch_on w.setup session key fate c w.rows)
stepped w (event.Step session) fate = on_stores w session (λ c. step_on session fate c w.rows w.pairs)
stepped w (event.Heal session) fate = on_cells w session (λ c. heal_on session fate c w.rows w.pairs)
stepped w (event.Abort session) fate = on_client w session (abort_on session)
stepped w (event.Vanish session) fate = on_client w session (vanish_on session)
stepped w (event.SweepOpen node txn) fate = on_sweep w node (λ post. sweep_open_on node txn post w.sweep)
stepped w event.SweepStep fate = on_swept w (sweep_step_on fate w.sweep w.rows w.pairs)

-- ---- the store that an event asks, if it asks any
abbrev pub asks_at_post : Option (Option InstanceEntry) → (Option InstanceEntry → Option Store) → Option Store
asks_at_post None f = None
asks_at_post (Some post) f = f post

abbrev pub asks_at_client : Option Client → (Client → Option Store) → Option Store
asks_at_client None f = None
asks_at_client (Some c) f = f c

abbrev pub asks : State → Event → Option Store
asks w (event.Take node reading) = asks_at_post (slice_get w.nodes node) take_asks
asks w (event.Renew node reading) = asks_at_post (slice_get w.nodes node) renew_asks
asks w (event.Extend node) = asks_at_post (slice_get w.nodes node) extend_asks
asks w (event.Put node session) = asks_at_post (slice_get w.nodes node) (put_asks session)
asks w (event.Write session key value) = asks_at_client (slice_get w.clients session) (write_asks key)
asks w (event.Fetch session key) = asks_at_client (slice_get w.clients session) (fetch_asks w.setup key)
asks w (event.Step session) = asks_at_client (slice_get w.clients session) step_asks
asks w (event.Heal session) = asks_at_client (slice_get w.clients session) heal_asks
asks w event.SweepStep = sweep_step_asks w.sweep
asks w _ = None

-- ---- lists of moves
-- an event with the fate of its store call
pub record Move : Type 0 where
  pub event : Event
  pub fate : Fate

abbrev pub after_move : State → Move → Step
after_move w move = stepped w move.event move.fate

-- the state after moves
unfoldable pub state_after : State → List Move → State
state_after w [] = w
state_after w (move ∷ moves) = state_after (after_move w move).state moves

-- the items that moves append
unfoldable pub items_after : State → List Move → List Item
items_after w [] = []
items_after w (move ∷ moves) = (after_move w move).items ++ items_after (after_move w move).state moves

-- the history of a system with these numbers
abbrev pub history_after : SetupNumbers → List Move → List Item
history_after setup moves = items_after (opening setup) moves

-- ---- steady readings
-- the reading that an event hands in
abbrev pub reading_of : Event → Option ℕ
reading_of (event.Take node reading) = Some reading
reading_of (event.Renew node reading) = Some reading
reading_of (event.Accept node session reading) = Some reading
reading_of _ = None

-- a reading is behind none before it by more than the skew, and far from the end of the numbers
abbrev pub IsSteadyAt : ℕ → ℕ → Option ℕ → Type 0
IsSteadyAt skew seen None = Unit {0}
IsSteadyAt skew seen (Some reading) = (reading ≤ 2 ^ 61) × (seen ≤ reading + skew)

abbrev pub seen_after : ℕ → Option ℕ → ℕ
seen_after seen None = seen
seen_after seen (Some reading) = max seen reading

-- the readings of moves, after the greatest one so far
unfoldable pub AreSteady : ℕ → ℕ → List Move → Type 0
AreSteady skew seen [] = Unit {0}
AreSteady skew seen (move ∷ moves) = IsSteadyAt skew seen (reading_of move.event) × AreSteady skew (seen_after seen (reading_of move.event)) moves

abbrev pub Steady : SetupNumbers → List Move → Type 0
Steady setup moves = AreSteady setup.skew 0 moves
