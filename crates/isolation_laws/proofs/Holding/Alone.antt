-- What each outcome leaves alone, with a frame or without: one record says it, and each group of facts is kept by it. For the tables over
-- all outcomes, which name only those that change what their facts read.
use Rattle.isolation_laws.proofs.Names.{◌≡◌, ℕ, Bool, true, false, List, [], ◌∷◌, ◌++◌, append_assoc, Option, refl, sym}
use Rattle.isolation_laws.proofs.Names.{◌∙◌, ap, asks, Item, Draw, Write, Read, InstanceEntry, Client, State, AllQuiet}
use Rattle.isolation_laws.proofs.Names.{Outcome, OfGranted, OfRenewed, OfExtended, OfAskedBegin, OfAskedCommit}
use Rattle.isolation_laws.proofs.Names.{OfAccepted, OfDrew, OfPlaced, OfOwnPlaced, OfAnsweredBegin, OfWrote, OfFetched}
use Rattle.isolation_laws.proofs.Names.{OfReadStepped, OfSweepListed, left_by, told_by_outcome, written_keys}
use Rattle.isolation_laws.proofs.Names.{NumberFacts, RequestFacts, MemoryFacts, CellFacts, AreFreshBegins}
use Rattle.isolation_laws.proofs.Names.{AreSettledBelow, AreReadSets, UnderWayFacts, IsolationInvariant}
use Rattle.isolation_laws.proofs.Pushed.{written_keys-quiet}
use Rattle.isolation_laws.proofs.Memory.MemoryStays.{SameMemory, RecordsNothing, nothing_quiet, nothing_more, memory_same}
use Rattle.isolation_laws.proofs.Requests.PendingAfter.{FewerPending}
use Rattle.isolation_laws.proofs.Requests.RequestsAfter.{FewerHeld}
use Rattle.isolation_laws.proofs.Requests.CommitsInFlight.{FewerStanding, IsAcceptedNow, IsDrawnNow}
use Rattle.isolation_laws.proofs.Requests.ClientsAfter.{written_keys-no_write}
use Rattle.isolation_laws.proofs.Requests.ClientsOpen.{FewerOpen}
use Rattle.isolation_laws.proofs.Requests.AsksBefore.{AsksNothing, quiet_no_ask, then_no_ask}
use Rattle.isolation_laws.proofs.Requests.FreshBegins.{begins_of, fresh_fewer}
use Rattle.isolation_laws.proofs.Requests.SettledBelow.{KeepsRanges, numbers_keep, below_fewer}
use Rattle.isolation_laws.proofs.Reading.ClientsReading.{FewerReading}
use Rattle.isolation_laws.proofs.Reading.ReadsStay.{NoReads, quiet_no_reads, then_no_reads}
use Rattle.isolation_laws.proofs.Reading.KeptReads.{SameReads}
use Rattle.isolation_laws.proofs.Reading.ReadSetsStay.{fewer_commits, read_sets_stay}
use Rattle.isolation_laws.proofs.Reading.ReadSetsOfRequests.{none_more}
use Rattle.isolation_laws.proofs.Stores.LiveAfter.{FewerLive}
use Rattle.isolation_laws.proofs.Stores.Calm.{Calm, calm_quiet}
use Rattle.isolation_laws.proofs.Stores.StoresStay.{ShadowsStay}
use Rattle.isolation_laws.proofs.Holding.Frames.{NodesFrame, ClientsFrame, Frame, live_framed, numbers_framed}
use Rattle.isolation_laws.proofs.Holding.NoStamps.{NoStamp, NoStamps, quiet_no_stamps, then_no_stamps}

-- ---- what an outcome may change
pub record Changes : Type 0 where
  -- the conflict memory, or what is recorded of commits
  pub memory : Bool
  -- the stamps that an instance may draw
  pub ranges : Bool
  -- which requests are held and asked for, which are accepted, which have drawn
  pub held : Bool
  pub accepted : Bool
  pub drawn : Bool
  -- which commits are pending, and how far each has come
  pub pending : Bool
  -- which transactions are open, and which reads go on or are answered
  pub opened : Bool
  pub reading : Bool
  -- what is placed or written
  pub stores : Bool
  -- what else the facts on sessions and requests read
  pub requests : Bool
  -- what the facts on stamps, terms and leases read
  pub numbers : Bool
  -- what sessions and the janitor have under way
  pub under_way : Bool
  -- whether it tells an item that some fact reads, and of these a begin or a placed commit, or a write
  pub told : Bool
  pub stamps : Bool
  pub writes : Bool

abbrev nothing : Changes
nothing = record { memory = false; ranges = false; held = false; accepted = false; drawn = false; pending = false; opened = false; reading = false; stores = false; requests = false; numbers = false; under_way = false; told = false; stamps = false; writes = false }

-- one with a frame changes none of it
abbrev pub changes : {w : State} → Outcome w → Changes
changes (OfGranted k) = record nothing { memory = true; ranges = true; numbers = true }
changes (OfRenewed k) = record nothing { numbers = true }
changes (OfExtended k) = record nothing { ranges = true; numbers = true }
changes (OfAskedBegin k) = record nothing { held = true; under_way = true; told = true }
changes (OfAskedCommit k) = record nothing { held = true; pending = true; requests = true; under_way = true }
changes (OfAccepted k) = record nothing { accepted = true; pending = true; requests = true }
changes (OfDrew k) = record nothing { memory = true; ranges = true; drawn = true; pending = true; requests = true; numbers = true; told = true }
changes (OfPlaced k) = record nothing { stores = true; requests = true; numbers = true; under_way = true; told = true; stamps = true }
changes (OfOwnPlaced k) = record nothing { stores = true; requests = true; numbers = true; under_way = true; told = true; stamps = true }
changes (OfAnsweredBegin k) = record nothing { opened = true; requests = true; numbers = true; under_way = true; told = true; stamps = true }
changes (OfWrote k) = record nothing { stores = true; requests = true; numbers = true; under_way = true; told = true; writes = true }
changes (OfFetched k) = record nothing { reading = true; numbers = true; under_way = true; told = true }
changes (OfReadStepped k) = record nothing { reading = true; numbers = true; under_way = true; told = true }
changes (OfSweepListed k) = record nothing { under_way = true; told = true }
changes _ = nothing

-- ---- what it leaves alone
pub record NodesAlone (c : Changes) (old new : List (Option InstanceEntry)) : Type 0 where
  pub memory : c.memory ≡ false → SameMemory old new
  pub ranges : c.ranges ≡ false → KeepsRanges old new
  pub held : c.held ≡ false → FewerHeld old new
  pub accepted : c.accepted ≡ false → FewerStanding IsAcceptedNow old new
  pub drawn : c.drawn ≡ false → FewerStanding IsDrawnNow old new

pub record ClientsAlone (c : Changes) (old new : List Client) : Type 0 where
  pub opened : c.opened ≡ false → FewerOpen old new
  pub reading : c.reading ≡ false → FewerReading old new

pub record ItemsAlone (c : Changes) (h items : List Item) : Type 0 where
  pub quiet : c.told ≡ false → AllQuiet items
  pub stamps : c.stamps ≡ false → NoStamps items
  pub writes : c.writes ≡ false → (t : ℕ) → written_keys (h ++ items) t ≡ written_keys h t
  pub records : c.memory ≡ false → RecordsNothing h (h ++ items)
  pub reads : c.reading ≡ false → NoReads items
  pub asks : c.held ≡ false → (s : ℕ) → AsksNothing s items

pub record StoresAlone (c : Changes) (w : State) (h : List Item) (left : State) (items : List Item) : Type 0 where
  pub calm : c.stores ≡ false → Calm h (h ++ items)
  pub shadows : c.stores ≡ false → ShadowsStay h w.rows left.rows
  pub cells : c.stores ≡ false → c.opened ≡ false → CellFacts left.clients left.nodes left.rows left.pairs (h ++ items)

pub record Alone (w : State) (h : List Item) (o : Outcome w) : Type 0 where
  pub nodes : NodesAlone (changes o) w.nodes (left_by w o).nodes
  pub clients : ClientsAlone (changes o) w.clients (left_by w o).clients
  pub items : ItemsAlone (changes o) h (told_by_outcome w o)
  pub stores : StoresAlone (changes o) w h (left_by w o) (told_by_outcome w o)
  pub pending : (changes o).pending ≡ false → FewerPending w.clients w.nodes (left_by w o).clients (left_by w o).nodes
  pub live : (changes o).opened ≡ false → FewerLive w.clients w.nodes (left_by w o).clients (left_by w o).nodes
  pub requests : (changes o).requests ≡ false → RequestFacts w.setup (left_by w o).nodes (left_by w o).clients (h ++ told_by_outcome w o)
  pub numbers : (changes o).numbers ≡ false → NumberFacts w.setup (left_by w o).seen (left_by w o).nodes w.master (h ++ told_by_outcome w o)
  pub under_way : (changes o).under_way ≡ false → UnderWayFacts (left_by w o).clients (left_by w o).sweep (left_by w o).rows (left_by w o).pairs (h ++ told_by_outcome w o)

-- ---- all of a part
pub nodes_all : (c : Changes) (old new : List (Option InstanceEntry)) → NodesFrame old new → NodesAlone c old new
nodes_all c old new f = record {
  memory = λ is. f.memory;
  ranges = λ is. numbers_keep old new f.numbers;
  held = λ is. f.held;
  accepted = λ is. f.accepted;
  drawn = λ is. f.drawn;
}

pub clients_all : (c : Changes) (old new : List Client) → ClientsFrame old new → ClientsAlone c old new
clients_all c old new f = record { opened = λ is. f.opened; reading = λ is. f.reading }

pub items_quiet : (c : Changes) (h items : List Item) → AllQuiet items → ItemsAlone c h items
items_quiet c h items quiet = record {
  quiet = λ is. quiet;
  stamps = λ is. quiet_no_stamps items quiet;
  writes = λ is t. written_keys-quiet h items t quiet;
  records = λ is. nothing_quiet h items quiet;
  reads = λ is. quiet_no_reads items quiet;
  asks = λ is s. quiet_no_ask s items quiet;
}

-- one item, and quiet ones behind it
abbrev is_plain : Item → Bool
is_plain (Draw s n term t commit) = false
is_plain (Write s t k value) = false
is_plain (Read s t k answer) = false
is_plain _ = true

plain_other : (x y : Item) → is_plain x ≡ true → is_plain y ≡ false → y ≡ x → ⊥
plain_other x y plain other same =
    let no : false ≡ true = sym other ∙ (ap (λ z. is_plain z) same ∙ plain) in
    absurd (cc)

keys_same : (h : List Item) (x : Item) (items : List Item) (t : ℕ) → ((s u k : ℕ) (value : List ℕ) → x ≡ Write s u k value → ⊥) → AllQuiet items → written_keys (h ++ x ∷ items) t ≡ written_keys h t
keys_same h x items t none quiet =
    ap (λ (all : List Item). written_keys all t) (sym (append_assoc h (x ∷ []) items)) ∙ (written_keys-quiet (h ++ x ∷ []) items t quiet ∙ written_keys-no_write h x t none)

pub items_more : (c : Changes) (h : List Item) (x : Item) (items : List Item) → c.told ≡ true → is_plain x ≡ true → (c.stamps ≡ false → NoStamp x) → (c.held ≡ false → (s : ℕ) → asks s x ≡ false) → AllQuiet items → ItemsAlone c h (x ∷ items)
items_more c h x items told plain unstamped unasked quiet = record {
  quiet = λ is. absurd (cc);
  stamps = λ is. then_no_stamps x items (unstamped is) (quiet_no_stamps items quiet);
  writes = λ is t. keys_same h x items t (λ s u k value same. plain_other x (Write s u k value) plain refl (sym same)) quiet;
  records = λ is. nothing_more h x items (λ s n term t commit same. plain_other x (Draw s n term t commit) plain refl same)
      (λ s t k value same drew. plain_other x (Write s t k value) plain refl (sym same)) (λ s t k answer same drew. plain_other x (Read s t k answer) plain refl (sym same)) quiet;
  reads = λ is. then_no_reads x items (λ s b k answer same. plain_other x (Read s b k answer) plain refl same) (quiet_no_reads items quiet);
  asks = λ is s. then_no_ask s x items (unasked is s) quiet;
}

-- by a frame
pub alone_frame : (w : State) (h : List Item) (o : Outcome w) → Frame w h (left_by w o) (told_by_outcome w o) → IsolationInvariant w h → Alone w h o
alone_frame w h o f holds = record {
  nodes = nodes_all (changes o) w.nodes (left_by w o).nodes f.nodes;
  clients = clients_all (changes o) w.clients (left_by w o).clients f.clients;
  items = items_quiet (changes o) h (told_by_outcome w o) f.quiet;
  stores = record { calm = λ is. calm_quiet h (told_by_outcome w o) f.quiet; shadows = λ is. f.shadows; cells = λ is opened. f.cells };
  pending = λ is. f.pending;
  live = λ is. live_framed w h (left_by w o) (told_by_outcome w o) f;
  requests = λ is. f.requests;
  numbers = λ is. numbers_framed w h (left_by w o) (told_by_outcome w o) f holds;
  under_way = λ is. f.under_way;
}

-- ---- each group of facts is kept where nothing that it reads changes
pub memory_alone : (w : State) (h : List Item) (o : Outcome w) → Alone w h o → (changes o).memory ≡ false → IsolationInvariant w h → MemoryFacts w.setup (left_by w o).nodes (h ++ told_by_outcome w o)
memory_alone w h o a is holds = memory_same w.setup w.nodes (left_by w o).nodes h (h ++ told_by_outcome w o) (a.nodes.memory is) (a.items.records is) holds.memory

pub read_sets_alone : (w : State) (h : List Item) (o : Outcome w) → Alone w h o → (changes o).held ≡ false → (changes o).opened ≡ false → (changes o).reading ≡ false → SameReads w.clients (left_by w o).clients → IsolationInvariant w h → AreReadSets w.setup (left_by w o).clients (left_by w o).nodes (h ++ told_by_outcome w o)
read_sets_alone w h o a held opened reading same holds =
    read_sets_stay w h (told_by_outcome w o) (left_by w o).clients (left_by w o).nodes same (a.clients.opened opened) (a.clients.reading reading)
    (fewer_commits w.nodes (left_by w o).nodes (a.nodes.held held)) (none_more h (told_by_outcome w o) (a.items.reads reading)) holds

pub fresh_alone : (w : State) (h : List Item) (o : Outcome w) → Alone w h o → (changes o).held ≡ false → (changes o).accepted ≡ false → (changes o).drawn ≡ false → AreFreshBegins w.nodes h → AreFreshBegins (left_by w o).nodes (h ++ told_by_outcome w o)
fresh_alone w h o a held accepted drawn fresh = fresh_fewer w.nodes (left_by w o).nodes h (told_by_outcome w o) (begins_of w.nodes (left_by w o).nodes (a.nodes.held held)) (a.nodes.accepted accepted) (a.nodes.drawn drawn) (a.items.asks held) fresh

pub below_alone : (w : State) (h : List Item) (o : Outcome w) → Alone w h o → (changes o).opened ≡ false → (changes o).ranges ≡ false → (changes o).drawn ≡ false → AreSettledBelow w.clients w.nodes → AreSettledBelow (left_by w o).clients (left_by w o).nodes
below_alone w h o a opened ranges drawn below = below_fewer w.clients (left_by w o).clients w.nodes (left_by w o).nodes (a.clients.opened opened) (a.nodes.ranges ranges) (a.nodes.drawn drawn) below
