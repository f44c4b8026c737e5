-- Which outcomes have a frame, and what it is of each.
use Rattle.isolation_laws.proofs.Requests.ClientMoves.{reading_after}
use Rattle.isolation_laws.proofs.Names.{OfAborted, OfAnsweredCommit, OfCompleted, OfCrashed, OfEnded, OfEndedReadOnly}
use Rattle.isolation_laws.proofs.Names.{OfHealed, OfOutcome, OfOutcomeFailed, OfOwnNotPlaced, OfWriteFailed, Outcome}
use Rattle.isolation_laws.proofs.Names.{OfStill, OfGranted, OfRenewed, OfExtended, OfAskedBegin, OfAskedCommit}
use Rattle.isolation_laws.proofs.Names.{OfAccepted, OfDrew, OfPlaced, OfNotPlaced, OfAnsweredBegin, OfHanded}
use Rattle.isolation_laws.proofs.Names.{OfOwnPlaced, OfWrote, OfVanished, OfFetched, OfReadDropped, OfReadStepped}
use Rattle.isolation_laws.proofs.Names.{OfSweepOpened, OfSwept, OfSweepListed, OfSweepFailed, left_by, told_by_outcome}
use Rattle.isolation_laws.proofs.Names.{◌≡◌, ◌≤◌, ℕ, Bool, true, false, if◌then◌else◌, List, ◌++◌, [], refl, subst}
use Rattle.isolation_laws.proofs.Names.{arith, All-nil, Item, with_shadow, Row, Pairs, Ask, SettlePoint, Settling}
use Rattle.isolation_laws.proofs.Names.{ask_at, settle_ask, Client, State, rows_after, pairs_after, Quiet, AllQuiet}
use Rattle.isolation_laws.proofs.Names.{CellFacts, UnderWayFacts, IsolationInvariant, Healed, MayHaveMarked}
use Rattle.system_parts.specs.declared.resolve.SettlePoint.TheVariants as point
use Rattle.isolation_laws.proofs.Requests.PendingFewer.{fewer_settled}
use Rattle.isolation_laws.proofs.Reading.ClientsReading.{FewerReading, same_reading, reading_handed, reading_vanished, reading_dropped}
use Rattle.isolation_laws.proofs.Stores.Calm.{calm_quiet}
use Rattle.isolation_laws.proofs.Stores.CellsStay.{cells_shadow}
use Rattle.isolation_laws.proofs.Stores.StoreMoves.{AskFits, never_live, cells_stepped}
use Rattle.isolation_laws.proofs.Stores.CompletionSteps.{sweep_fits}
use Rattle.isolation_laws.proofs.UnderWay.SessionMoves.{cells_may_mark, under_way_same}
use Rattle.isolation_laws.proofs.Stores.StoresStay.{shadows_same, shadows_if, shadows_set, FillsPlaced, shadows_after, completed_fills, swept_fills}
use Rattle.isolation_laws.proofs.Reading.ReadsStay.{shadows_failed}
use Rattle.isolation_laws.proofs.Requests.Silent.{silent_quiet}
use Rattle.isolation_laws.proofs.Requests.RequestsKept.{Leaves, requests_silent}
use Rattle.isolation_laws.proofs.Requests.RequestsOfNodes.{leaves_still, leaves_crashed, leaves_ended, leaves_answered_commit, leaves_alone}
use Rattle.isolation_laws.proofs.Requests.RequestsOfClients.{leaves_read_only, leaves_write_failed, leaves_aborted, leaves_healed, leaves_dropped, leaves_vanished, leaves_outcome, leaves_outcome_failed, leaves_completed}
use Rattle.isolation_laws.proofs.Requests.RequestsOfHandOvers.{leaves_handed}
use Rattle.isolation_laws.proofs.Requests.RequestsOfPlacings.{leaves_own_not_placed}
use Rattle.isolation_laws.proofs.Requests.RequestsOfSettled.{requests_not_placed}
use Rattle.isolation_laws.proofs.UnderWay.UnderWayOfRequests.{under_way_crashed, under_way_ended, under_way_answered_commit, under_way_handed}
use Rattle.isolation_laws.proofs.UnderWay.UnderWayOfPlacings.{under_way_own_not_placed}
use Rattle.isolation_laws.proofs.UnderWay.UnderWayOfSessions.{heal_placed, under_way_read_only, under_way_aborted, under_way_vanished, under_way_healed, under_way_dropped}
use Rattle.isolation_laws.proofs.UnderWay.UnderWayOfOutcomes.{under_way_outcome, under_way_outcome_failed}
use Rattle.isolation_laws.proofs.UnderWay.UnderWayOfCompletions.{completed_fits, under_way_completed}
use Rattle.isolation_laws.proofs.UnderWay.UnderWayOfSweeps.{under_way_sweep_opened, under_way_swept, under_way_sweep_failed}
use Rattle.isolation_laws.proofs.UnderWay.WritesKept.{cells_write_failed, under_way_write_failed}
use Rattle.isolation_laws.proofs.Holding.Frames.{NodesFrame, nodes_stay, nodes_alike, nodes_ended, nodes_over, nodes_settled, clients_stay, StoresFrame, stores_stay, Frame, frame}

-- ---- stores
-- the table may have got a mark
stores_marked : (w : State) (h : List Item) (pairs : Pairs) → MayHaveMarked w.pairs pairs → IsolationInvariant w h → StoresFrame w h w.rows pairs
stores_marked w h pairs marked holds = record { cells = cells_may_mark w h pairs holds marked; shadows = shadows_same h w.rows }

-- a step on the stores may have been made
cells_if : (w : State) (h : List Item) (asked : Ask) (applied : Bool) → IsolationInvariant w h → AskFits w h asked → CellFacts w.clients w.nodes (if applied then rows_after asked w.rows else w.rows) (if applied then pairs_after asked w.pairs else w.pairs) h
cells_if w h asked true holds fits = cells_stepped w h asked holds fits
cells_if w h asked false holds fits = holds.cells

stores_if : (w : State) (h : List Item) (asked : Ask) (applied : Bool) → IsolationInvariant w h → AskFits w h asked → FillsPlaced h asked → StoresFrame w h (if applied then rows_after asked w.rows else w.rows) (if applied then pairs_after asked w.pairs else w.pairs)
stores_if w h asked applied holds fits fills = record {
  cells = cells_if w h asked applied holds fits;
  shadows = shadows_if h w.rows (rows_after asked w.rows) applied (shadows_after h w.rows asked holds.isolated.stamped fills);
}

-- the ask of a resolve changes no cell
ask_fits : (w : State) (h : List Item) (key txn : ℕ) (at : SettlePoint) → AskFits w h (ask_at key txn at)
ask_fits w h key txn point.FirstLook = tt
ask_fits w h key txn point.Table = tt
ask_fits w h key txn point.Marking = tt
ask_fits w h key txn (point.LastLook met) = tt

ask_rows : (rows : List Row) (key txn : ℕ) (at : SettlePoint) → rows_after (ask_at key txn at) rows ≡ rows
ask_rows rows key txn point.FirstLook = refl
ask_rows rows key txn point.Table = refl
ask_rows rows key txn point.Marking = refl
ask_rows rows key txn (point.LastLook met) = refl

pub settle_cells : (w : State) (h : List Item) (x : Settling) → IsolationInvariant w h → CellFacts w.clients w.nodes w.rows (pairs_after (settle_ask x) w.pairs) h
settle_cells w h x holds = subst (λ (rows : List Row). CellFacts w.clients w.nodes rows (pairs_after (settle_ask x) w.pairs) h) (ask_rows w.rows x.key x.txn x.point) (cells_stepped w h (settle_ask x) holds (ask_fits w h x.key x.txn x.point))

stores_settled : (w : State) (h : List Item) (x : Settling) → IsolationInvariant w h → StoresFrame w h w.rows (pairs_after (settle_ask x) w.pairs)
stores_settled w h x holds = record { cells = settle_cells w h x holds; shadows = shadows_same h w.rows }

-- an offered shadow may have been set
healed_cells : (w : State) (h : List Item) (k : Healed w) (applied : Bool) → IsolationInvariant w h → CellFacts w.clients w.nodes (if applied then with_shadow w.rows k.key k.version k.commit else w.rows) w.pairs h
healed_cells w h k true holds = cells_shadow w.clients w.nodes w.rows w.pairs h k.key k.version k.commit holds.isolated.stamped (never_live w h holds) (heal_placed w h k holds) holds.cells
healed_cells w h k false holds = holds.cells

stores_healed : (w : State) (h : List Item) (k : Healed w) → IsolationInvariant w h → StoresFrame w h (if k.applied then with_shadow w.rows k.key k.version k.commit else w.rows) w.pairs
stores_healed w h k holds = record {
  cells = healed_cells w h k k.applied holds;
  shadows = shadows_if h w.rows (with_shadow w.rows k.key k.version k.commit) k.applied (shadows_set h w.rows k.key k.version k.commit holds.isolated.stamped (heal_placed w h k holds));
}

-- ---- which outcomes have a frame
abbrev pub is_framed : {w : State} → Outcome w → Bool
is_framed (OfGranted k) = false
is_framed (OfRenewed k) = false
is_framed (OfExtended k) = false
is_framed (OfAskedBegin k) = false
is_framed (OfAskedCommit k) = false
is_framed (OfAccepted k) = false
is_framed (OfDrew k) = false
is_framed (OfPlaced k) = false
is_framed (OfOwnPlaced k) = false
is_framed (OfAnsweredBegin k) = false
is_framed (OfWrote k) = false
is_framed (OfFetched k) = false
is_framed (OfReadStepped k) = false
is_framed (OfSweepListed k) = false
is_framed _ = true

-- by what it leaves of requests and sessions, where nothing of them is told
untold : (w : State) (h : List Item) (left : State) (items : List Item) → AllQuiet items → w.seen ≤ left.seen → NodesFrame w.nodes left.nodes → FewerReading w.clients left.clients → StoresFrame w h left.rows left.pairs → Leaves w h left.nodes left.clients → UnderWayFacts left.clients left.sweep left.rows left.pairs (h ++ items) → IsolationInvariant w h → Frame w h left items
untold w h left items quiet up nodes reading stores leaves under_way holds =
    frame w h left items quiet up nodes leaves.pending (record { opened = leaves.opened; reading = reading }) stores
    (requests_silent w h (h ++ items) left.nodes left.clients (silent_quiet h items quiet) leaves holds) under_way

-- a client alone changes, and the stores
by_client : (w : State) (h items : List Item) (clients : List Client) (rows : List Row) (pairs : Pairs) → AllQuiet items → FewerReading w.clients clients → StoresFrame w h rows pairs → Leaves w h w.nodes clients → UnderWayFacts clients w.sweep rows pairs (h ++ items) → IsolationInvariant w h → Frame w h (record w { clients = clients; rows = rows; pairs = pairs }) items
by_client w h items clients rows pairs quiet reading stores leaves under_way holds =
    untold w h (record w { clients = clients; rows = rows; pairs = pairs }) items quiet (omega arith) (nodes_stay w.nodes) reading stores leaves under_way holds

-- the sweep alone changes, and the stores
by_sweep : (w left : State) (h items : List Item) → AllQuiet items → StoresFrame w h left.rows left.pairs → UnderWayFacts w.clients left.sweep left.rows left.pairs (h ++ items) → IsolationInvariant w h → Frame w h (record w { sweep = left.sweep; rows = left.rows; pairs = left.pairs }) items
by_sweep w left h items quiet stores under_way holds =
    untold w h (record w { sweep = left.sweep; rows = left.rows; pairs = left.pairs }) items quiet (omega arith) (nodes_stay w.nodes) (same_reading w.clients) stores (leaves_alone w h holds) under_way holds

-- ---- the frame of each
pub framed : (w : State) (h : List Item) (o : Outcome w) → IsolationInvariant w h → is_framed o ≡ true → Frame w h (left_by w o) (told_by_outcome w o)
framed w h (OfStill k) holds is = untold w h (left_by w (OfStill k)) k.items k.quiet k.up (nodes_alike w.nodes k.nodes k.alike) (same_reading w.clients) (stores_stay w h holds) (leaves_still w h k holds) (under_way_same w h _ holds (calm_quiet h k.items k.quiet)) holds
framed w h (OfCrashed k) holds is = untold w h (left_by w (OfCrashed k)) k.items k.quiet (omega arith) (nodes_ended w.nodes k.node) (reading_after w (OfCrashed k) refl) (stores_stay w h holds) (leaves_crashed w h k holds) (under_way_crashed w h k holds) holds
framed w h (OfEnded k) holds is = untold w h (left_by w (OfEnded k)) k.items k.quiet k.up (nodes_over w.nodes k.node k.session k.i k.at) (reading_after w (OfEnded k) refl) (stores_stay w h holds) (leaves_ended w h k holds) (under_way_ended w h k holds) holds
framed w h (OfNotPlaced k) holds is = frame w h (left_by w (OfNotPlaced k)) k.items k.quiet (omega arith) (nodes_settled w k.it k.by) (fewer_settled w k.it k.by) (clients_stay w.clients) (stores_stay w h holds) (requests_not_placed w h k holds) (under_way_same w h _ holds (calm_quiet h k.items k.quiet))
framed w h (OfAnsweredCommit k) holds is = untold w h (left_by w (OfAnsweredCommit k)) k.items k.quiet (omega arith) (nodes_over w.nodes k.node k.session k.i k.at) (reading_after w (OfAnsweredCommit k) refl) (stores_stay w h holds) (leaves_answered_commit w h k holds) (under_way_answered_commit w h k holds) holds
framed w h (OfHanded k) holds is = untold w h (left_by w (OfHanded k)) k.items k.quiet (omega arith) (nodes_over w.nodes k.node k.session k.i k.at) (reading_handed w k) (stores_stay w h holds) (leaves_handed w h k holds) (under_way_handed w h k holds) holds
framed w h (OfOwnNotPlaced k) holds is = by_client w h k.items _ w.rows w.pairs k.quiet (reading_after w (OfOwnNotPlaced k) refl) (stores_stay w h holds) (leaves_own_not_placed w h k holds) (under_way_own_not_placed w h k holds) holds
framed w h (OfEndedReadOnly k) holds is = by_client w h k.items _ w.rows w.pairs k.quiet (reading_after w (OfEndedReadOnly k) refl) (stores_stay w h holds) (leaves_read_only w h k holds) (under_way_read_only w h k holds) holds
framed w h (OfWriteFailed k) holds is = record {
  quiet = k.quiet;
  up = omega arith;
  nodes = nodes_stay w.nodes;
  pending = (leaves_write_failed w h k holds).pending;
  clients = record { opened = (leaves_write_failed w h k holds).opened; reading = reading_after w (OfWriteFailed k) refl };
  shadows = shadows_failed w h k holds;
  cells = cells_write_failed w h k holds;
  requests = requests_silent w h (h ++ k.items) _ _ (silent_quiet h k.items k.quiet) (leaves_write_failed w h k holds) holds;
  under_way = under_way_write_failed w h k holds;
}
framed w h (OfAborted k) holds is = by_client w h k.items _ w.rows w.pairs k.quiet (reading_after w (OfAborted k) refl) (stores_stay w h holds) (leaves_aborted w h k holds) (under_way_aborted w h k holds) holds
framed w h (OfVanished k) holds is = by_client w h k.items _ w.rows w.pairs k.quiet (reading_vanished w k) (stores_stay w h holds) (leaves_vanished w h k holds) (under_way_vanished w h k holds) holds
framed w h (OfHealed k) holds is = by_client w h k.items _ _ w.pairs k.quiet (reading_after w (OfHealed k) refl) (stores_healed w h k holds) (leaves_healed w h k holds) (under_way_healed w h k holds) holds
framed w h (OfReadDropped k) holds is = by_client w h k.items _ w.rows k.pairs k.quiet (reading_dropped w k) (stores_marked w h k.pairs k.pairs_are holds) (leaves_dropped w h k holds) (under_way_dropped w h k holds) holds
framed w h (OfOutcome k) holds is = by_client w h k.items _ w.rows _ k.quiet (reading_after w (OfOutcome k) refl) (stores_settled w h k.x holds) (leaves_outcome w h k holds) (under_way_outcome w h k holds) holds
framed w h (OfOutcomeFailed k) holds is = by_client w h k.items _ w.rows k.pairs k.quiet (reading_after w (OfOutcomeFailed k) refl) (stores_marked w h k.pairs k.pairs_are holds) (leaves_outcome_failed w h k holds) (under_way_outcome_failed w h k holds) holds
framed w h (OfCompleted k) holds is = by_client w h k.items _ _ _ k.quiet (reading_after w (OfCompleted k) refl) (stores_if w h k.asked k.applied holds (completed_fits w h k holds) (completed_fills w h k holds)) (leaves_completed w h k holds) (under_way_completed w h k holds) holds
framed w h (OfSweepOpened k) holds is = by_sweep w (left_by w (OfSweepOpened k)) h [] (All-nil Quiet) (stores_stay w h holds) (under_way_sweep_opened w h k holds) holds
framed w h (OfSwept k) holds is = by_sweep w (left_by w (OfSwept k)) h k.items k.quiet (stores_if w h k.asked true holds (sweep_fits w h k.s k.asked holds k.is_open k.asks) (swept_fills w h k.s k.asked holds k.is_open k.asks)) (under_way_swept w h k holds) holds
framed w h (OfSweepFailed k) holds is = by_sweep w (left_by w (OfSweepFailed k)) h k.items k.quiet (stores_if w h k.asked k.applied holds (sweep_fits w h k.s k.asked holds k.is_open k.asks) (swept_fills w h k.s k.asked holds k.is_open k.asks)) (under_way_sweep_failed w h k holds) holds
framed w h _ holds is = absurd (cc)
