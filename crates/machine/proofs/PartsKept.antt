-- For isolation_laws, cause_laws and others above too.
-- Each event is of one kind, by the parts that it looks up and puts back: so it leaves what it does not touch, its refusals that
-- leave all do, and it asks a store as its definition says. Other tables name the events that matter to them, and leave the rest to
-- these laws by a catch-all.
use Rattle.machine.proofs.Names.{◌≡◌, ℕ, List, [], ◌∷◌, Option, Some, None, refl, arith, length, Fate, Held}
use Rattle.machine.proofs.Names.{InstanceEntry, Event, Client, State, with_reading, asks, stepped, reading_of}
use Rattle.machine.proofs.Names.{seen_after, take_on, take_asks, renew_on, renew_asks, extend_on, extend_asks}
use Rattle.machine.proofs.Names.{crashed_clients, crash_on, ask_begin_on, ask_commit_on, accept_on, decide_on, put_on}
use Rattle.machine.proofs.Names.{put_asks, answer_on, write_on, write_asks, fetch_on, fetch_asks, step_on, step_asks}
use Rattle.machine.proofs.Names.{heal_on, heal_asks, abort_on, vanish_on, sweep_open_on, sweep_step_on, sweep_step_asks}
use Rattle.machine.proofs.Names.{LeavesParts, StoresAreAskedOnce, RefusalsLeaveAll, state_seen, touches_clients}
use Rattle.machine.proofs.Names.{touches_nodes, touches_sweep, touches_rows, touches_pairs, touches_master}
use Rattle.machine.specs.declared.event.Event.TheVariants as event
use Rattle.machine.specs.Events.Clock.{tick_items, note_items}
use Rattle.machine.proofs.PlainEvents.{plain_abort, plain_vanish, plain_sweep_open, plain_crash, plain_ask_begin, plain_ask_commit, plain_accept, plain_decide, plain_answer, decide_works}
use Rattle.machine.proofs.RecordEvents.{asked_take, asked_renew, asked_extend}
use Rattle.machine.proofs.StoreEvents.{asked_put, asked_write, asked_fetch, asked_heal, asked_step, asked_sweep_step}
use Rattle.machine.proofs.KindsAsked.{Kind, plain_kind, record_kind, clients_kind, ask_kind, request_kind, table_kind, client_kind, read_kind, cells_kind, stores_kind, sweep_kind, swept_kind}

-- ---- a crash loses no client
crashed_many : (requests : List (Option Held)) (clients : List Client) → length (crashed_clients requests clients) ≡ length clients
unfolding crashed_clients
crashed_many [] clients = refl
crashed_many (held ∷ others) [] = refl
crashed_many (held ∷ others) (c ∷ clients) = omega (arith, crashed_many others clients)

crash_many : (node : ℕ) (post : Option InstanceEntry) (clients : List Client) → length (crash_on node post clients).parts.1 ≡ length clients
crash_many node None clients = refl
crash_many node (Some i) clients = crashed_many i.requests clients

-- ---- each event, from the state that has seen its reading
abbrev KindOf : State → Event → Type 0
KindOf w e = Kind (touches_clients e) (touches_nodes e) (touches_sweep e) (touches_rows e) (touches_pairs e) (touches_master e) (state_seen w e) (asks w e) (stepped w e)

kind_of : (w : State) (e : Event) → KindOf w e
kind_of w (event.Tick to) = plain_kind w (tick_items to)
kind_of w (event.Note actor note) = plain_kind w (note_items actor note)
kind_of w (event.Take node reading) = record_kind (with_reading w reading) node take_asks (λ fate post. take_on w.setup node reading fate post w.master) (λ post. asked_take w.setup node reading post w.master)
kind_of w (event.Renew node reading) = record_kind (with_reading w reading) node renew_asks (λ fate post. renew_on w.setup node reading fate post w.master) (λ post. asked_renew w.setup node reading post w.master)
kind_of w (event.Extend node) = record_kind w node extend_asks (λ fate post. extend_on w.setup node fate post w.master) (λ post. asked_extend w.setup node post w.master)
kind_of w (event.Crash node) = clients_kind w node (λ post. crash_on node post w.clients) (λ post. crash_many node post w.clients) (λ post. plain_crash node post w.clients)
kind_of w (event.AskBegin s node) = ask_kind w s node (ask_begin_on s node) (plain_ask_begin s node)
kind_of w (event.AskCommit s node) = ask_kind w s node (ask_commit_on s node) (plain_ask_commit s node)
kind_of w (event.Accept node s reading) = request_kind (with_reading w reading) node s (accept_on node s reading) (λ post c keeps. (plain_accept node s reading post c).leaves) (λ post c. (plain_accept node s reading post c).works)
kind_of w (event.Decide node s) = request_kind w node s (decide_on node s) (λ post c keeps. (plain_decide node s post c keeps).leaves) (decide_works node s)
kind_of w (event.Put node s) = table_kind w node (put_asks s) (λ fate post. put_on node s fate post w.pairs) (λ post. asked_put node s post w.pairs)
kind_of w (event.Answer node s) = request_kind w node s (answer_on node s) (λ post c keeps. (plain_answer node s post c).leaves) (λ post c. (plain_answer node s post c).works)
kind_of w (event.Write s key value) = cells_kind w s (write_asks key) (λ fate c. write_on s key value fate c w.rows) (λ c. asked_write s key value c w.rows)
kind_of w (event.Fetch s key) = read_kind w s (fetch_asks w.setup key) (λ fate c. fetch_on w.setup s key fate c w.rows) (λ c. asked_fetch w.setup s key c w.rows)
kind_of w (event.Step s) = stores_kind w s step_asks (λ fate c. step_on s fate c w.rows w.pairs) (λ c. asked_step s c w.rows w.pairs)
kind_of w (event.Heal s) = cells_kind w s heal_asks (λ fate c. heal_on s fate c w.rows w.pairs) (λ c. asked_heal s c w.rows w.pairs)
kind_of w (event.Abort s) = client_kind w s (abort_on s) (plain_abort s)
kind_of w (event.Vanish s) = client_kind w s (vanish_on s) (plain_vanish s)
kind_of w (event.SweepOpen node txn) = sweep_kind w node (λ post. sweep_open_on node txn post w.sweep) (λ post. plain_sweep_open node txn post w.sweep)
kind_of w event.SweepStep = swept_kind w (sweep_step_asks w.sweep) (λ fate. sweep_step_on fate w.sweep w.rows w.pairs) (asked_sweep_step w.sweep w.rows w.pairs)

-- ---- the laws
pub seen_up : (w : State) (e : Event) (fate : Fate) → (stepped w e fate).state.seen ≡ seen_after w.seen (reading_of e)
seen_up w e fate = ((kind_of w e).kept fate).seen

pub leaves_parts : (w : State) (e : Event) (fate : Fate) → LeavesParts e w (stepped w e fate).state
leaves_parts w e fate = let k = (kind_of w e).kept fate in record {
  setup = k.setup;
  clients = k.clients;
  nodes = k.nodes;
  sweep = k.sweep;
  rows = k.rows;
  pairs = k.pairs;
  master = k.master;
}

pub posts_stay : (w : State) (e : Event) (fate : Fate) → length (stepped w e fate).state.nodes ≡ length w.nodes
posts_stay w e fate = ((kind_of w e).kept fate).posts

pub clients_stay : (w : State) (e : Event) (fate : Fate) → length (stepped w e fate).state.clients ≡ length w.clients
clients_stay w e fate = ((kind_of w e).kept fate).many

pub asked_once : StoresAreAskedOnce
asked_once w e = let x = (kind_of w e).exact in record { none = x.none; unchanged = x.unchanged; applied = x.applied; works = x.works }

pub refusals_left : RefusalsLeaveAll
refusals_left w e fate why keeps = (kind_of w e).exact.leaves keeps fate why
