-- The frame of an outcome that draws, places, opens and writes nothing: one record of what it leaves alone. For the one of all outcomes,
-- `Alone`, and for the table of numbers.
use Rattle.isolation_laws.proofs.Names.{ℕ, ◌≤◌, List, ◌++◌, Option, Some, None, inl, refl, slice_set, Item, Row, Pairs}
use Rattle.isolation_laws.proofs.Names.{Settled, InstanceEntry, without_request, Client, State, InstanceAt, AllQuiet}
use Rattle.isolation_laws.proofs.Names.{NumberFacts, RequestFacts, CellFacts, UnderWayFacts, IsolationInvariant}
use Rattle.isolation_laws.proofs.Names.{AlikeNodes, AtDrawn, settled_nodes}
use Rattle.isolation_laws.proofs.Numbers.NumbersStay.{SameNumbers, numbered_same, numbered_alike, numbered_ended, numbered_set, numbered}
use Rattle.isolation_laws.proofs.Numbers.NumbersKept.{quiet_one}
use Rattle.isolation_laws.proofs.Memory.MemoryStays.{SameMemory, remembered_same, remembered_alike, remembered_ended, remembered_set}
use Rattle.isolation_laws.proofs.Requests.PendingAfter.{FewerPending}
use Rattle.isolation_laws.proofs.Requests.RequestsAfter.{FewerHeld, held_ended_at, held_changed, held_over}
use Rattle.isolation_laws.proofs.Requests.CommitsInFlight.{FewerStanding, IsAcceptedNow, IsDrawnNow}
use Rattle.isolation_laws.proofs.Requests.Standing.{standing_same, standing_alike, standing_ended, standing_over, standing_settled, held_same, held_alike, held_settled}
use Rattle.isolation_laws.proofs.Requests.ClientsOpen.{FewerOpen, same_at_work}
use Rattle.isolation_laws.proofs.Reading.ClientsReading.{FewerReading, same_reading}
use Rattle.isolation_laws.proofs.Stores.LiveAfter.{FewerLive, fewer_live}
use Rattle.isolation_laws.proofs.Stores.Calm.{calm_quiet}
use Rattle.isolation_laws.proofs.Stores.CellsStay.{cells_calm}
use Rattle.isolation_laws.proofs.Stores.StoresStay.{ShadowsStay, shadows_same}

-- ---- nodes: no instance is new or has other numbers, and no request is new or has gone on to a stamp
pub record NodesFrame (old new : List (Option InstanceEntry)) : Type 0 where
  pub numbers : SameNumbers old new
  pub memory : SameMemory old new
  pub held : FewerHeld old new
  pub accepted : FewerStanding IsAcceptedNow old new
  pub drawn : FewerStanding IsDrawnNow old new

pub nodes_stay : (nodes : List (Option InstanceEntry)) → NodesFrame nodes nodes
nodes_stay nodes = record {
  numbers = numbered_same nodes;
  memory = remembered_same nodes;
  held = held_same nodes;
  accepted = standing_same IsAcceptedNow nodes;
  drawn = standing_same IsDrawnNow nodes;
}

pub nodes_alike : (old new : List (Option InstanceEntry)) → AlikeNodes old new → NodesFrame old new
nodes_alike old new alike = record {
  numbers = numbered_alike old new alike;
  memory = remembered_alike old new alike;
  held = held_alike old new alike;
  accepted = standing_alike IsAcceptedNow old new alike;
  drawn = standing_alike IsDrawnNow old new alike;
}

-- an instance has ended
pub nodes_ended : (nodes : List (Option InstanceEntry)) (n : ℕ) → NodesFrame nodes (slice_set nodes n None)
nodes_ended nodes n = record {
  numbers = numbered_ended nodes n;
  memory = remembered_ended nodes n;
  held = held_ended_at nodes n;
  accepted = standing_ended IsAcceptedNow nodes n;
  drawn = standing_ended IsDrawnNow nodes n;
}

-- a request is over
pub nodes_over : (nodes : List (Option InstanceEntry)) (n s : ℕ) (i : InstanceEntry) → InstanceAt nodes n i → NodesFrame nodes (slice_set nodes n (Some (without_request i s)))
nodes_over nodes n s i at = record {
  numbers = numbered_set nodes n i (without_request i s) at (numbered i _ refl refl refl refl refl);
  memory = remembered_set nodes n i (without_request i s) at (record { term = refl; buckets = refl; direct = refl });
  held = held_changed nodes n i (without_request i s) at (held_over i s);
  accepted = standing_over IsAcceptedNow nodes n s i at;
  drawn = standing_over IsDrawnNow nodes n s i at;
}

-- the put of a commit has ended
pub nodes_settled : (w : State) (it : AtDrawn w) (by : Settled) → NodesFrame w.nodes (settled_nodes w it by)
nodes_settled w it by = record {
  numbers = numbered_set w.nodes it.node it.i _ it.at (numbered it.i _ refl refl refl refl refl);
  memory = remembered_set w.nodes it.node it.i _ it.at (record { term = refl; buckets = refl; direct = refl });
  held = held_settled w it by;
  accepted = standing_settled IsAcceptedNow w it by (λ is. is);
  drawn = standing_settled IsDrawnNow w it by (λ is. is);
}

-- ---- clients: no transaction has been opened, and no read has been begun or has gone on
pub record ClientsFrame (old new : List Client) : Type 0 where
  pub opened : FewerOpen old new
  pub reading : FewerReading old new

pub clients_stay : (clients : List Client) → ClientsFrame clients clients
clients_stay clients = record { opened = (same_at_work clients).opened; reading = same_reading clients }

-- ---- stores: shadows stay, and the cells fit what was there before
pub record StoresFrame (w : State) (h : List Item) (rows : List Row) (pairs : Pairs) : Type 0 where
  pub cells : CellFacts w.clients w.nodes rows pairs h
  pub shadows : ShadowsStay h w.rows rows

pub stores_stay : (w : State) (h : List Item) → IsolationInvariant w h → StoresFrame w h w.rows w.pairs
stores_stay w h holds = record { cells = holds.cells; shadows = shadows_same h w.rows }

-- ---- all of them, with items that no fact reads
pub record Frame (w : State) (h : List Item) (left : State) (items : List Item) : Type 0 where
  pub quiet : AllQuiet items
  pub up : w.seen ≤ left.seen
  pub nodes : NodesFrame w.nodes left.nodes
  pub pending : FewerPending w.clients w.nodes left.clients left.nodes
  pub clients : ClientsFrame w.clients left.clients
  pub shadows : ShadowsStay h w.rows left.rows
  pub cells : CellFacts left.clients left.nodes left.rows left.pairs (h ++ items)
  pub requests : RequestFacts w.setup left.nodes left.clients (h ++ items)
  pub under_way : UnderWayFacts left.clients left.sweep left.rows left.pairs (h ++ items)

pub frame : (w : State) (h : List Item) (left : State) (items : List Item) → AllQuiet items → w.seen ≤ left.seen → NodesFrame w.nodes left.nodes → FewerPending w.clients w.nodes left.clients left.nodes → ClientsFrame w.clients left.clients → StoresFrame w h left.rows left.pairs → RequestFacts w.setup left.nodes left.clients (h ++ items) → UnderWayFacts left.clients left.sweep left.rows left.pairs (h ++ items) → Frame w h left items
frame w h left items quiet up nodes pending clients stores requests under_way = record {
  quiet = quiet;
  up = up;
  nodes = nodes;
  pending = pending;
  clients = clients;
  shadows = stores.shadows;
  cells = cells_calm w.clients left.clients w.nodes left.nodes left.rows left.pairs h (h ++ items) (λ t live. inl (fewer_live w.clients left.clients w.nodes left.nodes clients.opened pending t live)) (calm_quiet h items quiet) stores.cells;
  requests = requests;
  under_way = under_way;
}

-- ---- what is kept by a frame
pub numbers_framed : (w : State) (h : List Item) (left : State) (items : List Item) → Frame w h left items → IsolationInvariant w h → NumberFacts w.setup left.seen left.nodes w.master (h ++ items)
numbers_framed w h left items f holds = quiet_one w h left.nodes left.seen items f.nodes.numbers f.up f.quiet holds

pub live_framed : (w : State) (h : List Item) (left : State) (items : List Item) → Frame w h left items → FewerLive w.clients w.nodes left.clients left.nodes
live_framed w h left items f = fewer_live w.clients left.clients w.nodes left.nodes f.clients.opened f.pending
