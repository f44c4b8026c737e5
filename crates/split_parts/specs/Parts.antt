-- The parts that are lent to an event, under what the script sets, and the state that is filled up around them.
use Rattle.std.specs.Prelude.{◌≡◌, ℕ, zero, suc, ◌+◌, List, [], ◌∷◌, slice_set, slice_index_or, Option, None, Some, IfSome, unwrap_or}
use Rattle.std.specs.Borrow.{MutBor}
use Rattle.stamp_base.specs.SetupNumbers.{SetupNumbers}
use Rattle.stamp_base.specs.declared.stores.Store.{Store}
use Rattle.stamp_base.specs.declared.stores.Store.TheVariants as store
use Rattle.port_io.specs.declared.weather.Fate.{Fate}
use Rattle.port_io.specs.declared.weather.Fate.TheVariants.{Works}
use Rattle.port_io.specs.Planned.{PlannedFault, planned_fate}
use Rattle.script_data.specs.Data.{ScriptData}
use Rattle.script_data.specs.declared.line.Target.{Target}
use Rattle.script_data.specs.declared.line.Target.TheVariants as target
use Rattle.system_parts.specs.Rows.{Row}
use Rattle.system_parts.specs.Pairs.{Pairs}
use Rattle.system_parts.specs.Record.{MasterRecord, Leasing}
use Rattle.system_parts.specs.Sweep.{Sweeping}
use Rattle.system_parts.specs.Instance.{InstanceEntry}
use Rattle.machine.specs.State.{Client, State, opening}
use Rattle.machine.specs.Events.Take.{rules_of}
use Rattle.session_script.specs.PostedNames.{Posted}
use Rattle.split_parts.specs.Plans.{plan_data}
use Rattle.split_parts.specs.declared.lent.Lent.{Lent}
use Rattle.split_parts.specs.declared.parts.SessionPart.{SessionPart}
use Rattle.split_parts.specs.declared.parts.JanitorPart.{JanitorPart}
use Rattle.split_parts.specs.declared.parts.ClockPart.{ClockPart}
use Rattle.split_parts.specs.declared.parts.NodePart.{NodePart}
use Rattle.split_parts.specs.declared.parts.CellsPart.{CellsPart}
use Rattle.split_parts.specs.declared.parts.TablePart.{TablePart}
use Rattle.split_parts.specs.declared.parts.MasterPart.{MasterPart}
use Rattle.split_parts.specs.declared.parts.NamesPart.{NamesPart}

-- ---- the parts as contracts see them
-- a session, which it is, and its client
pub record Session : Type 0 where
  pub number : ℕ
  pub client : Client

-- a node, which it is, and its instance
pub record Node : Type 0 where
  pub node : ℕ
  pub instance : Option InstanceEntry

-- a store, and how many calls there were on it
pub record CellRows : Type 0 where
  pub rows : List Row
  pub calls : ℕ

pub record Marks : Type 0 where
  pub pairs : Pairs
  pub calls : ℕ

pub record Record : Type 0 where
  pub rules : Leasing
  pub state : MasterRecord
  pub calls : ℕ

-- what the script sets, which no lock guards; the parts that are lent, and those that are not
pub record Parts : Type 0 where
  pub plan : ScriptData
  pub sessions : List (Option Session)
  pub janitor : Option (Option Sweeping)
  pub clock : Option ℕ
  pub node : Option Node
  pub cells : Option CellRows
  pub table : Option Marks
  pub master : Option Record
  pub names : Option (List (List ℕ))

-- ---- what stands behind the references
abbrev pub behind : {P S : Type 0} → (P → S) → Option (MutBor P) → Option S
behind see None = None
behind see (Some r) = Some (see r.now)

abbrev pub session_of : SessionPart → Session
session_of p = record { number = p.number; client = p.client }

abbrev pub janitor_of : JanitorPart → Option Sweeping
janitor_of p = p.sweep

abbrev pub clock_of : ClockPart → ℕ
clock_of p = p.base

abbrev pub node_of : NodePart → Node
node_of p = record { node = p.node; instance = p.post }

abbrev pub cells_of : CellsPart → CellRows
cells_of p = record { rows = p.cells.rows; calls = p.calls }

abbrev pub table_of : TablePart → Marks
table_of p = record { pairs = p.table.pairs; calls = p.calls }

abbrev pub master_of : MasterPart → Record
master_of p = record { rules = p.master.rules; state = p.master.state; calls = p.calls }

abbrev pub names_of : NamesPart → List (List ℕ)
names_of p = p.names.names

abbrev pub sessions_seen : Lent → List (Option Session)
sessions_seen l =
    behind session_of l.s0 ∷ behind session_of l.s1 ∷ behind session_of l.s2 ∷ behind session_of l.s3 ∷ behind session_of l.s4 ∷ behind session_of l.s5 ∷ behind session_of l.s6 ∷ behind session_of l.s7 ∷ behind session_of l.s8 ∷ behind session_of l.s9 ∷ behind session_of l.s10 ∷ behind session_of l.s11 ∷ behind session_of l.s12 ∷ behind session_of l.s13 ∷ behind session_of l.s14 ∷ behind session_of l.s15 ∷ []

abbrev pub seen : Lent → Parts
seen l = record {
  plan = plan_data l.plan.now;
  sessions = sessions_seen l;
  janitor = behind janitor_of l.janitor;
  clock = behind clock_of l.clock;
  node = behind node_of l.node;
  cells = behind cells_of l.cells;
  table = behind table_of l.table;
  master = behind master_of l.master;
  names = behind names_of l.names;
}

-- the names with the room for more
abbrev pub posted_of : NamesPart → Posted
posted_of p = p.names

-- what is lent besides the sessions
pub record Rest : Type 0 where
  pub plan : ScriptData
  pub janitor : Option (Option Sweeping)
  pub clock : Option ℕ
  pub node : Option Node
  pub cells : Option CellRows
  pub table : Option Marks
  pub master : Option Record
  pub posted : Option Posted

abbrev pub rest_of : Lent → Rest
rest_of l = record {
  plan = plan_data l.plan.now;
  janitor = behind janitor_of l.janitor;
  clock = behind clock_of l.clock;
  node = behind node_of l.node;
  cells = behind cells_of l.cells;
  table = behind table_of l.table;
  master = behind master_of l.master;
  posted = behind posted_of l.names;
}

-- ---- the filled state
abbrev pub or_else : {T : Type 0} → Option T → T → T
or_else None there = there
or_else (Some lent) there = lent

-- where a part is lent, it has this value
abbrev pub given : {T : Type 0} → Option T → T → Option T
given None now = None
given (Some was) now = Some now

-- the client of a lent session, or the one that is there
abbrev pub client_or : Option Session → Client → Client
client_or None there = there
client_or (Some own) there = own.client

-- the session, where it is lent, with this client
abbrev pub given_client : Option Session → Client → Option Session
given_client None now = None
given_client (Some own) now = Some (record own { client = now })

-- the clients of which the first n are those of the lent sessions, where they are lent
unfoldable pub lent_clients : ℕ → List Client → List (Option Session) → List Client
lent_clients zero clients sessions = clients
lent_clients (suc n) [] sessions = []
lent_clients (suc n) (c ∷ clients) [] = c ∷ clients
lent_clients (suc n) (c ∷ clients) (s ∷ sessions) = client_or s c ∷ lent_clients n clients sessions

-- the lent sessions of which the first n are as the clients are
unfoldable pub given_sessions : ℕ → List (Option Session) → List Client → List (Option Session)
given_sessions zero sessions clients = sessions
given_sessions (suc n) [] clients = []
given_sessions (suc n) (s ∷ sessions) [] = s ∷ sessions
given_sessions (suc n) (s ∷ sessions) (c ∷ clients) = given_client s c ∷ given_sessions n sessions clients

abbrev pub lent_nodes : List (Option InstanceEntry) → Option Node → List (Option InstanceEntry)
lent_nodes nodes None = nodes
lent_nodes nodes (Some n) = slice_set nodes n.node n.instance

abbrev pub lent_rows : List Row → Option CellRows → List Row
lent_rows rows None = rows
lent_rows rows (Some part) = part.rows

abbrev pub lent_pairs : Pairs → Option Marks → Pairs
lent_pairs pairs None = pairs
lent_pairs pairs (Some part) = part.pairs

abbrev pub lent_master : MasterRecord → Option Record → MasterRecord
lent_master master None = master
lent_master master (Some part) = part.state

-- the state with the lent parts in place of its own
abbrev pub with_lent : State → Parts → State
with_lent w l = record w {
  clients = lent_clients 16 w.clients l.sessions;
  nodes = lent_nodes w.nodes l.node;
  sweep = or_else l.janitor w.sweep;
  rows = lent_rows w.rows l.cells;
  pairs = lent_pairs w.pairs l.table;
  master = lent_master w.master l.master;
}

abbrev pub given_node : List (Option InstanceEntry) → Option Node → Option Node
given_node nodes None = None
given_node nodes (Some n) = Some (record n { instance = slice_index_or nodes n.node n.instance })

abbrev pub given_rows : List Row → Option CellRows → Option CellRows
given_rows rows None = None
given_rows rows (Some part) = Some (record part { rows = rows })

abbrev pub given_pairs : Pairs → Option Marks → Option Marks
given_pairs pairs None = None
given_pairs pairs (Some part) = Some (record part { pairs = pairs })

abbrev pub given_master : MasterRecord → Option Record → Option Record
given_master master None = None
given_master master (Some part) = Some (record part { state = master })

-- the lent parts as the state has them; plan, numbers, clock, names and counts stay
abbrev pub given_from : Parts → State → Parts
given_from l w = record l {
  sessions = given_sessions 16 l.sessions w.clients;
  janitor = given l.janitor w.sweep;
  node = given_node w.nodes l.node;
  cells = given_rows w.rows l.cells;
  table = given_pairs w.pairs l.table;
  master = given_master w.master l.master;
}

-- the setup of the script
abbrev pub setup_of : Parts → SetupNumbers
setup_of l = l.plan.setup

-- the state that has the lent parts, and is as at the opening elsewhere
abbrev pub filled : Parts → State
filled l = with_lent (opening (setup_of l)) l

-- the lent record leases by that setup
abbrev pub LeasesBySetup : Parts → Type 0
LeasesBySetup l = IfSome l.master (λ part. part.rules ≡ rules_of (setup_of l))

-- ---- the node that is asked
-- the node that holds the lent record, or the first node where none does
abbrev pub holder_by : Option Record → ℕ
holder_by None = 0
holder_by (Some part) = unwrap_or part.state.holder 0

-- the node of the target, where this one is the master
abbrev pub node_for : ℕ → Target → ℕ
node_for master (target.Node node) = node
node_for master target.Master = master

-- the node that an ask of the target is for, by the lent record
abbrev pub node_asked : Parts → Target → ℕ
node_asked l to = node_for (holder_by l.master) to

-- ---- clock and fates
abbrev pub base_by : Option ℕ → ℕ
base_by None = 0
base_by (Some base) = base

-- what a node's clock shows at this base clock
abbrev pub reading_of : ℕ → List ℕ → ℕ → ℕ
reading_of base leads node = base + slice_index_or leads node 0

abbrev pub cells_fate : List PlannedFault → Option CellRows → Fate
cells_fate faults None = Works
cells_fate faults (Some part) = planned_fate faults store.Cells (part.calls + 1)

abbrev pub table_fate : List PlannedFault → Option Marks → Fate
table_fate faults None = Works
table_fate faults (Some part) = planned_fate faults store.Table (part.calls + 1)

abbrev pub master_fate : List PlannedFault → Option Record → Fate
master_fate faults None = Works
master_fate faults (Some part) = planned_fate faults store.Master (part.calls + 1)

-- the fate that the script plans for the next call on the store
abbrev pub fate_of : Parts → Option Store → Fate
fate_of l None = Works
fate_of l (Some store.Cells) = cells_fate l.plan.faults l.cells
fate_of l (Some store.Table) = table_fate l.plan.faults l.table
fate_of l (Some store.Master) = master_fate l.plan.faults l.master

-- ---- what a store call counts
abbrev pub cells_called : Option CellRows → Option CellRows
cells_called None = None
cells_called (Some part) = Some (record part { calls = part.calls + 1 })

abbrev pub table_called : Option Marks → Option Marks
table_called None = None
table_called (Some part) = Some (record part { calls = part.calls + 1 })

abbrev pub master_called : Option Record → Option Record
master_called None = None
master_called (Some part) = Some (record part { calls = part.calls + 1 })

abbrev pub called : Option Store → Parts → Parts
called None l = l
called (Some store.Cells) l = record l { cells = cells_called l.cells }
called (Some store.Table) l = record l { table = table_called l.table }
called (Some store.Master) l = record l { master = master_called l.master }
