-- For cause_laws too.
-- What each outcome leaves alone: a row for each that has no frame, and the frame of the others.
use Rattle.isolation_laws.proofs.Names.{◌≡◌, ℕ, ◌+◌, Bool, true, false, List, [], ◌∷◌, ◌++◌, Option, Some, inl, inr}
use Rattle.isolation_laws.proofs.Names.{max, refl, sym, ap, subst, arith, slice_set, All-nil, Janitor, Keys, Item}
use Rattle.isolation_laws.proofs.Names.{AskBegin, Begin, Write, Placed, Step, renewed_until, ReadTurn, settling_of}
use Rattle.isolation_laws.proofs.Names.{Pairs, Held, InstanceEntry, with_request, instance_renewed, State, rules_of}
use Rattle.isolation_laws.proofs.Names.{Quiet, draw_item, read_items, Renewed, renewed_nodes, Extended, extended_nodes}
use Rattle.isolation_laws.proofs.Names.{WroteOne, wrote_items, fetched_turn, read_turn, Outcome, OfGranted, OfRenewed}
use Rattle.isolation_laws.proofs.Names.{OfExtended, OfAskedBegin, OfAskedCommit, OfAccepted, OfDrew, OfPlaced}
use Rattle.isolation_laws.proofs.Names.{OfOwnPlaced, OfAnsweredBegin, OfWrote, OfFetched, OfReadStepped, OfSweepListed}
use Rattle.isolation_laws.proofs.Names.{left_by, told_by_outcome, instance_changed, max_left, InstanceAt, HasDrawn}
use Rattle.isolation_laws.proofs.Names.{epoch_or_none, NumberFacts, CellFacts, UnderWayFacts, IsolationInvariant}
use Rattle.isolation_laws.proofs.Memory.MemoryStays.{SameMemory, RecordsNothing, remembered_same, remembered_set, nothing_turn, nothing_write}
use Rattle.isolation_laws.proofs.Numbers.NumbersStay.{SameNumbers, numbered_same, numbered_set, numbered}
use Rattle.isolation_laws.proofs.Numbers.NumbersKept.{plain_one, quiet_one}
use Rattle.isolation_laws.proofs.Requests.ClientMoves.{at_work_after, reading_after}
use Rattle.isolation_laws.proofs.Requests.OpenAfter.{at_work_wrote}
use Rattle.isolation_laws.proofs.Requests.PendingFewer.{same_served, fewer_settled, pending_answered_begin}
use Rattle.isolation_laws.proofs.Requests.PendingAfter.{FewerPending, fewer_pending}
use Rattle.isolation_laws.proofs.Requests.CommitsInFlight.{IsAcceptedNow, IsDrawnNow}
use Rattle.isolation_laws.proofs.Requests.Standing.{standing_asked_begin, standing_asked_commit, standing_accepted, standing_drew, drawn_not_accepted, standing_granted, standing_renewed, standing_extended, held_granted, held_renewed, held_extended, held_accepted, held_drew}
use Rattle.isolation_laws.proofs.Requests.AsksBefore.{one_no_ask, draw_no_ask, turn_no_ask}
use Rattle.isolation_laws.proofs.Requests.SettledBelow.{KeepsRanges, numbers_keep}
use Rattle.isolation_laws.proofs.Requests.Silent.{Silent, silent_quiet, silent_push, silent_turn, ask_says, listing_says}
use Rattle.isolation_laws.proofs.Requests.RequestsKept.{Leaves, requests_silent}
use Rattle.isolation_laws.proofs.Requests.RequestsOfNodes.{leaves_granted, leaves_renewed, leaves_extended, leaves_asked_begin, leaves_alone}
use Rattle.isolation_laws.proofs.Requests.RequestsOfClients.{leaves_fetched, leaves_read}
use Rattle.isolation_laws.proofs.Requests.RequestsOfDraws.{drew_keys}
use Rattle.isolation_laws.proofs.Requests.RequestsOfWrites.{wrote_open}
use Rattle.isolation_laws.proofs.Reading.ClientsReading.{FewerReading, same_reading, reading_answered_begin, reading_wrote}
use Rattle.isolation_laws.proofs.Reading.ReadsStay.{one_no_reads, draw_no_reads}
use Rattle.isolation_laws.proofs.Reading.ReadsOfReads.{fetched_open, stepped_open}
use Rattle.isolation_laws.proofs.Stores.Calm.{Calm, calm_quiet, calm_turn, calm_draw}
use Rattle.isolation_laws.proofs.Stores.CellsStay.{cells_calm}
use Rattle.isolation_laws.proofs.Stores.StoresStay.{shadows_same}
use Rattle.isolation_laws.proofs.UnderWay.SessionMoves.{under_way_same}
use Rattle.isolation_laws.proofs.UnderWay.UnderWayOfRequests.{calm_ask, calm_begin}
use Rattle.isolation_laws.proofs.UnderWay.UnderWayOfSweeps.{calm_listing}
use Rattle.isolation_laws.proofs.Stores.LiveAfter.{FewerLive, fewer_live, live_by_clients, live_by_nodes, live_asked_commit, live_accepted, live_drew}
use Rattle.isolation_laws.proofs.Holding.Frames.{nodes_stay, nodes_over, nodes_settled, clients_stay}
use Rattle.isolation_laws.proofs.Holding.NoStamps.{one_no_stamp, draw_no_stamp, turn_no_stamps, first_no_stamps}
use Rattle.isolation_laws.proofs.Holding.Framed.{framed, settle_cells}
use Rattle.isolation_laws.proofs.Holding.Alone.{Changes, changes, NodesAlone, ClientsAlone, ItemsAlone, StoresAlone, Alone, nodes_all, clients_all, items_quiet, items_more, alone_frame}

-- ---- instances
renewed_memory : (w : State) (k : Renewed w) (failed : Bool) → SameMemory w.nodes (renewed_nodes w k failed)
renewed_memory w k true = remembered_same w.nodes
renewed_memory w k false = remembered_set w.nodes k.node k.i _ k.at (record { term = refl; buckets = refl; direct = refl })

renewed_ranges : (w : State) (k : Renewed w) (failed : Bool) → KeepsRanges w.nodes (renewed_nodes w k failed)
renewed_ranges w k true = numbers_keep w.nodes w.nodes (numbered_same w.nodes)
renewed_ranges w k false = record {
  each = λ n j at. elim (instance_changed w.nodes k.node n (instance_renewed k.i (renewed_until (rules_of w.setup) w.master k.reading)) j at) [
    | inl here ↦ (k.i, subst (λ m. InstanceAt w.nodes m k.i) (sym here.0) k.at, ap (λ x. x.ceiling) here.1, omega (arith, ap (λ x. x.last) here.1))
    | inr there ↦ (j, there.1, refl, omega arith)
  ];
}

extended_memory : (w : State) (k : Extended w) (failed : Bool) → SameMemory w.nodes (extended_nodes w k failed)
extended_memory w k true = remembered_same w.nodes
extended_memory w k false = remembered_set w.nodes k.node k.i _ k.at (record { term = refl; buckets = refl; direct = refl })

-- a session has another request at its node
requests_memory : (nodes : List (Option InstanceEntry)) (n s : ℕ) (i : InstanceEntry) (now : Option Held) → InstanceAt nodes n i → SameMemory nodes (slice_set nodes n (Some (with_request i s now)))
requests_memory nodes n s i now at = remembered_set nodes n i (with_request i s now) at (record { term = refl; buckets = refl; direct = refl })

requests_numbers : (nodes : List (Option InstanceEntry)) (n s : ℕ) (i : InstanceEntry) (now : Option Held) → InstanceAt nodes n i → SameNumbers nodes (slice_set nodes n (Some (with_request i s now)))
requests_numbers nodes n s i now at = numbered_set nodes n i (with_request i s now) at (numbered i _ refl refl refl refl refl)

requests_ranges : (nodes : List (Option InstanceEntry)) (n s : ℕ) (i : InstanceEntry) (now : Option Held) → InstanceAt nodes n i → KeepsRanges nodes (slice_set nodes n (Some (with_request i s now)))
requests_ranges nodes n s i now at = numbers_keep nodes _ (requests_numbers nodes n s i now at)

-- ---- items: what a read has come to, and a write
items_turn : (c : Changes) (h : List Item) (x : Item) (s b k : ℕ) (turn : ReadTurn) → c.reading ≡ true → c.told ≡ true → Quiet x → (HasDrawn h b → ⊥) → ItemsAlone c h (x ∷ read_items s b k turn)
items_turn c h x s b k turn reads told quiet undrawn = record {
  quiet = λ is. absurd (cc);
  stamps = λ is. first_no_stamps x (read_items s b k turn) quiet (turn_no_stamps s b k turn);
  writes = λ is. (silent_turn h x s b k turn quiet).keys;
  records = λ is. nothing_turn h x s b k turn quiet undrawn;
  reads = λ is. absurd (cc);
  asks = λ is r. turn_no_ask r x s b k turn quiet;
}

wrote_nothing : (w : State) (h : List Item) (k : WroteOne w) → IsolationInvariant w h → RecordsNothing h (h ++ wrote_items w k)
wrote_nothing w h k holds = nothing_write h k.it.session k.start k.key k.value (holds.requests.opened.undrawn k.it.session k.start (epoch_or_none k.it.c.entry.epoch) (wrote_open w k))

-- ---- stores: they stay, but for marks, or something is placed or written
abbrev StaysLive : (w : State) → Outcome w → Type 0
StaysLive w o = (changes o).opened ≡ false → FewerLive w.clients w.nodes (left_by w o).clients (left_by w o).nodes

stores_marked : (w : State) (h : List Item) (o : Outcome w) (pairs : Pairs) → Calm h (h ++ told_by_outcome w o) → CellFacts w.clients w.nodes w.rows pairs h → StaysLive w o → StoresAlone (changes o) w h (record (left_by w o) { rows = w.rows; pairs = pairs }) (told_by_outcome w o)
stores_marked w h o pairs calm facts live = record {
  calm = λ is. calm;
  shadows = λ is. shadows_same h w.rows;
  cells = λ is opened. cells_calm w.clients (left_by w o).clients w.nodes (left_by w o).nodes w.rows pairs h (h ++ told_by_outcome w o) (λ t now. inl (live opened t now)) calm facts;
}

stores_same : (w : State) (h : List Item) (o : Outcome w) → Calm h (h ++ told_by_outcome w o) → IsolationInvariant w h → StaysLive w o → StoresAlone (changes o) w h (record (left_by w o) { rows = w.rows; pairs = w.pairs }) (told_by_outcome w o)
stores_same w h o calm holds live = stores_marked w h o w.pairs calm holds.cells live

stores_change : (w : State) (h : List Item) (o : Outcome w) → (changes o).stores ≡ true → StaysLive w o → StoresAlone (changes o) w h (left_by w o) (told_by_outcome w o)
stores_change w h o told live = record { calm = λ is. absurd (cc); shadows = λ is. absurd (cc); cells = λ is opened. absurd (cc) }

-- ---- numbers, and what is under way
abbrev StaysNumbered : (w : State) → List Item → Outcome w → Type 0
StaysNumbered w h o = (changes o).numbers ≡ false → NumberFacts w.setup (left_by w o).seen (left_by w o).nodes w.master (h ++ told_by_outcome w o)

abbrev StaysUnderWay : (w : State) → List Item → Outcome w → Type 0
StaysUnderWay w h o = (changes o).under_way ≡ false → UnderWayFacts (left_by w o).clients (left_by w o).sweep (left_by w o).rows (left_by w o).pairs (h ++ told_by_outcome w o)

-- ---- by what it leaves of requests and sessions, where nothing of them is told
silently : (w : State) (h : List Item) (o : Outcome w) → NodesAlone (changes o) w.nodes (left_by w o).nodes → ((changes o).reading ≡ false → FewerReading w.clients (left_by w o).clients) → ItemsAlone (changes o) h (told_by_outcome w o) → (StaysLive w o → StoresAlone (changes o) w h (left_by w o) (told_by_outcome w o)) → Silent h (h ++ told_by_outcome w o) → Leaves w h (left_by w o).nodes (left_by w o).clients → StaysNumbered w h o → StaysUnderWay w h o → IsolationInvariant w h → Alone w h o
silently w h o nodes reading items stores silent leaves numbers under_way holds =
    let live : StaysLive w o = λ is. fewer_live w.clients (left_by w o).clients w.nodes (left_by w o).nodes leaves.opened leaves.pending in
    record {
      nodes = nodes;
      clients = record { opened = λ is. leaves.opened; reading = reading };
      items = items;
      stores = stores live;
      pending = λ is. leaves.pending;
      live = live;
      requests = λ is. requests_silent w h (h ++ told_by_outcome w o) (left_by w o).nodes (left_by w o).clients silent leaves holds;
      numbers = numbers;
      under_way = under_way;
    }

-- where something of them is told
loudly : (w : State) (h : List Item) (o : Outcome w) → (changes o).requests ≡ true → NodesAlone (changes o) w.nodes (left_by w o).nodes → ClientsAlone (changes o) w.clients (left_by w o).clients → ItemsAlone (changes o) h (told_by_outcome w o) → (StaysLive w o → StoresAlone (changes o) w h (left_by w o) (told_by_outcome w o)) → ((changes o).pending ≡ false → FewerPending w.clients w.nodes (left_by w o).clients (left_by w o).nodes) → StaysLive w o → StaysNumbered w h o → StaysUnderWay w h o → Alone w h o
loudly w h o told nodes clients items stores pending live numbers under_way = record { nodes = nodes; clients = clients; items = items; stores = stores live; pending = pending; live = live; requests = λ is. absurd (cc); numbers = numbers; under_way = under_way }

-- ---- each outcome
pub alone : (w : State) (h : List Item) (o : Outcome w) → IsolationInvariant w h → Alone w h o
alone w h (OfGranted k) holds =
    silently w h (OfGranted k) (record { memory = λ is. absurd (cc); ranges = λ is. absurd (cc); held = λ is. held_granted w k; accepted = λ is. standing_granted IsAcceptedNow w k; drawn = λ is. standing_granted IsDrawnNow w k })
    (λ is. same_reading w.clients) (items_quiet _ h k.items k.quiet) (stores_same w h (OfGranted k) (calm_quiet h k.items k.quiet) holds) (silent_quiet h k.items k.quiet) (leaves_granted w h k holds) (λ is. absurd (cc)) (λ is. under_way_same w h _ holds (calm_quiet h k.items k.quiet)) holds
alone w h (OfRenewed k) holds =
    silently w h (OfRenewed k) (record { memory = λ is. renewed_memory w k k.failed; ranges = λ is. renewed_ranges w k k.failed; held = λ is. held_renewed w k; accepted = λ is. standing_renewed IsAcceptedNow w k; drawn = λ is. standing_renewed IsDrawnNow w k })
    (λ is. same_reading w.clients) (items_quiet _ h k.items k.quiet) (stores_same w h (OfRenewed k) (calm_quiet h k.items k.quiet) holds) (silent_quiet h k.items k.quiet) (leaves_renewed w h k holds) (λ is. absurd (cc)) (λ is. under_way_same w h _ holds (calm_quiet h k.items k.quiet)) holds
alone w h (OfExtended k) holds =
    silently w h (OfExtended k) (record { memory = λ is. extended_memory w k k.failed; ranges = λ is. absurd (cc); held = λ is. held_extended w k; accepted = λ is. standing_extended IsAcceptedNow w k; drawn = λ is. standing_extended IsDrawnNow w k })
    (λ is. same_reading w.clients) (items_quiet _ h k.items k.quiet) (stores_same w h (OfExtended k) (calm_quiet h k.items k.quiet) holds) (silent_quiet h k.items k.quiet) (leaves_extended w h k holds) (λ is. absurd (cc)) (λ is. under_way_same w h _ holds (calm_quiet h k.items k.quiet)) holds
alone w h (OfAskedBegin k) holds =
    silently w h (OfAskedBegin k) (record { memory = λ is. requests_memory w.nodes k.node k.session k.i _ k.at; ranges = λ is. requests_ranges w.nodes k.node k.session k.i _ k.at; held = λ is. absurd (cc); accepted = λ is. standing_asked_begin IsAcceptedNow w k (λ is. is); drawn = λ is. standing_asked_begin IsDrawnNow w k (λ is. is) })
    (λ is. reading_after w (OfAskedBegin k) refl) (items_more _ h (AskBegin k.session k.node) [] refl refl (λ is. refl) (λ is. absurd (cc)) (All-nil Quiet)) (stores_same w h (OfAskedBegin k) (calm_ask h k.session k.node) holds) (silent_push h _ (ask_says k.session k.node)) (leaves_asked_begin w h k holds) (λ is. plain_one w h _ (AskBegin k.session k.node) refl (requests_numbers w.nodes k.node k.session k.i _ k.at) holds) (λ is. absurd (cc)) holds
alone w h (OfAskedCommit k) holds =
    loudly w h (OfAskedCommit k) refl (record { memory = λ is. requests_memory w.nodes k.node k.session k.i _ k.at; ranges = λ is. requests_ranges w.nodes k.node k.session k.i _ k.at; held = λ is. absurd (cc); accepted = λ is. standing_asked_commit IsAcceptedNow w k (λ is. is); drawn = λ is. standing_asked_commit IsDrawnNow w k (λ is. is) })
    (record { opened = λ is. (at_work_after w (OfAskedCommit k) refl).opened; reading = λ is. reading_after w (OfAskedCommit k) refl }) (items_quiet _ h k.items k.quiet) (stores_same w h (OfAskedCommit k) (calm_quiet h k.items k.quiet) holds) (λ is. absurd (cc)) (λ is. live_asked_commit w k)
    (λ is. quiet_one w h _ w.seen k.items (requests_numbers w.nodes k.node k.session k.i _ k.at) (omega arith) k.quiet holds) (λ is. absurd (cc))
alone w h (OfAccepted k) holds =
    loudly w h (OfAccepted k) refl (record { memory = λ is. requests_memory w.nodes k.node k.session k.i _ k.at; ranges = λ is. requests_ranges w.nodes k.node k.session k.i _ k.at; held = λ is. held_accepted w k; accepted = λ is. absurd (cc); drawn = λ is. standing_accepted IsDrawnNow w k (λ is. is) })
    (clients_all _ w.clients w.clients (clients_stay w.clients)) (items_quiet _ h k.items k.quiet) (stores_same w h (OfAccepted k) (calm_quiet h k.items k.quiet) holds) (λ is. absurd (cc)) (λ is. live_accepted w k)
    (λ is. quiet_one w h _ (max w.seen k.reading) k.items (requests_numbers w.nodes k.node k.session k.i _ k.at) (max_left w.seen k.reading) k.quiet holds) (λ is. under_way_same w h _ holds (calm_quiet h k.items k.quiet))
alone w h (OfDrew k) holds =
    loudly w h (OfDrew k) refl (record { memory = λ is. absurd (cc); ranges = λ is. absurd (cc); held = λ is. held_drew w k; accepted = λ is. standing_drew IsAcceptedNow w k (drawn_not_accepted k.i.direct k.held.request (k.i.last + 1)); drawn = λ is. absurd (cc) })
    (clients_all _ w.clients w.clients (clients_stay w.clients))
    (record { quiet = λ is. absurd (cc); stamps = λ is. one_no_stamp (draw_item k.node k.i.term k.held.request (k.i.last + 1)) (draw_no_stamp k.node k.i.term (k.i.last + 1) k.held.request); writes = λ is. drew_keys w k h; records = λ is. absurd (cc); reads = λ is. draw_no_reads k.node k.i.term k.held.request (k.i.last + 1); asks = λ is s. draw_no_ask s k.node k.i.term (k.i.last + 1) k.held.request }) (stores_same w h (OfDrew k) (calm_draw h k.node k.i.term k.held.request (k.i.last + 1)) holds) (λ is. absurd (cc)) (λ is. live_drew w k) (λ is. absurd (cc)) (λ is. under_way_same w h _ holds (calm_draw h k.node k.i.term k.held.request (k.i.last + 1)))
alone w h (OfPlaced k) holds =
    loudly w h (OfPlaced k) refl (nodes_all _ w.nodes _ (nodes_settled w k.it k.by)) (clients_all _ w.clients w.clients (clients_stay w.clients))
    (items_more _ h (Placed k.it.start k.it.commit) k.items refl refl (λ is. absurd (cc)) (λ is s. refl) k.quiet) (stores_change w h (OfPlaced k) refl) (λ is. fewer_settled w k.it k.by) (λ is. live_by_nodes w.clients w.nodes _ (fewer_settled w k.it k.by)) (λ is. absurd (cc)) (λ is. absurd (cc))
alone w h (OfOwnPlaced k) holds =
    loudly w h (OfOwnPlaced k) refl (nodes_all _ w.nodes w.nodes (nodes_stay w.nodes)) (record { opened = λ is. (at_work_after w (OfOwnPlaced k) refl).opened; reading = λ is. reading_after w (OfOwnPlaced k) refl })
    (items_more _ h (Placed k.it.start k.it.commit) k.items refl refl (λ is. absurd (cc)) (λ is s. refl) k.quiet) (stores_change w h (OfOwnPlaced k) refl) (λ is. fewer_pending w.clients _ w.nodes w.nodes (at_work_after w (OfOwnPlaced k) refl).placing (same_served w.nodes)) (λ is. live_by_clients w.clients _ w.nodes (at_work_after w (OfOwnPlaced k) refl)) (λ is. absurd (cc)) (λ is. absurd (cc))
alone w h (OfAnsweredBegin k) holds =
    loudly w h (OfAnsweredBegin k) refl (nodes_all _ w.nodes _ (nodes_over w.nodes k.node k.session k.i k.at)) (record { opened = λ is. absurd (cc); reading = λ is. reading_answered_begin w k })
    (items_more _ h (Begin k.session k.start) [] refl refl (λ is. absurd (cc)) (λ is s. refl) (All-nil Quiet)) (stores_same w h (OfAnsweredBegin k) (calm_begin h k.session k.start) holds) (λ is. pending_answered_begin w k) (λ is. absurd (cc)) (λ is. absurd (cc)) (λ is. absurd (cc))
alone w h (OfWrote k) holds =
    loudly w h (OfWrote k) refl (nodes_all _ w.nodes w.nodes (nodes_stay w.nodes)) (record { opened = λ is. (at_work_wrote w k).opened; reading = λ is. reading_wrote w k })
    (record { quiet = λ is. absurd (cc); stamps = λ is. one_no_stamp (Write k.it.session k.start k.key k.value) refl; writes = λ is. absurd (cc); records = λ is. wrote_nothing w h k holds; reads = λ is. one_no_reads (Write k.it.session k.start k.key k.value) (λ s b key answer is. cc); asks = λ is s. one_no_ask s _ refl }) (stores_change w h (OfWrote k) refl) (λ is. fewer_pending w.clients _ w.nodes w.nodes (at_work_wrote w k).placing (same_served w.nodes)) (λ is. live_by_clients w.clients _ w.nodes (at_work_wrote w k)) (λ is. absurd (cc)) (λ is. absurd (cc))
alone w h (OfFetched k) holds =
    silently w h (OfFetched k) (nodes_all _ w.nodes w.nodes (nodes_stay w.nodes)) (λ is. absurd (cc))
    (items_turn _ h k.first k.it.session k.start k.key (fetched_turn w k) refl refl k.quiet (holds.requests.opened.undrawn k.it.session k.start k.epoch (fetched_open w k)))
    (stores_same w h (OfFetched k) (calm_turn h k.first k.it.session k.start k.key (fetched_turn w k) k.quiet) holds) (silent_turn h k.first k.it.session k.start k.key (fetched_turn w k) k.quiet) (leaves_fetched w h k holds) (λ is. absurd (cc)) (λ is. absurd (cc)) holds
alone w h (OfReadStepped k) holds =
    silently w h (OfReadStepped k) (nodes_all _ w.nodes w.nodes (nodes_stay w.nodes)) (λ is. absurd (cc))
    (items_turn _ h k.first k.session k.r.start k.r.key (read_turn w k) refl refl k.quiet (holds.requests.opened.undrawn k.session k.r.start k.r.epoch (stepped_open w h k holds)))
    (stores_marked w h (OfReadStepped k) _ (calm_turn h k.first k.session k.r.start k.r.key (read_turn w k) k.quiet) (settle_cells w h (settling_of k.r) holds)) (silent_turn h k.first k.session k.r.start k.r.key (read_turn w k) k.quiet) (leaves_read w h k holds) (λ is. absurd (cc)) (λ is. absurd (cc)) holds
alone w h (OfSweepListed k) holds =
    silently w h (OfSweepListed k) (nodes_all _ w.nodes w.nodes (nodes_stay w.nodes)) (λ is. same_reading w.clients)
    (items_more _ h (Step Janitor (Keys k.txn k.count)) [] refl refl (λ is. refl) (λ is s. refl) (All-nil Quiet)) (stores_same w h (OfSweepListed k) (calm_listing h k.txn k.count) holds) (silent_push h _ (listing_says Janitor k.txn k.count)) (leaves_alone w h holds) (λ is. plain_one w h w.nodes (Step Janitor (Keys k.txn k.count)) refl (numbered_same w.nodes) holds) (λ is. absurd (cc)) holds
alone w h o holds = alone_frame w h o (framed w h o holds refl) holds
