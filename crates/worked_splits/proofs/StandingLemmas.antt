-- For this crate's tests alone.
-- An event leaves the parts lent, and node and rules as they are.
use Rattle.std.proofs.Common.{◌≡◌, ℕ, zero, suc, List, [], ◌∷◌, Option, Some, None, refl, sym, subst, rules}
use Rattle.std.specs.Prelude.{slice_index_or, IfSome, IsSome, IsSomeAnd}
use Rattle.stamp_base.specs.SetupNumbers.{SetupNumbers}
use Rattle.stamp_base.specs.declared.stores.Store.{Store}
use Rattle.stamp_base.specs.declared.stores.Store.TheVariants as store
use Rattle.system_parts.specs.Rows.{Row}
use Rattle.system_parts.specs.Record.{MasterRecord}
use Rattle.system_parts.specs.Instance.{InstanceEntry}
use Rattle.machine.specs.declared.event.Event as machine
use Rattle.machine.specs.declared.event.Event.TheVariants as timed
use Rattle.machine.specs.Events.Take.{rules_of}
use Rattle.machine.specs.State.{Client, State}
use Rattle.split_parts.specs.declared.acting.Acted.{Acted}
use Rattle.split_parts.specs.Acts.{Acts, asked_of, noted, step_of}
use Rattle.split_parts.specs.Parts.{CellRows, Node, Parts, Record, Session, called, cells_called, given, given_client, given_from, given_master, given_node, given_rows, given_sessions, master_called}
use Rattle.worked_splits.specs.Standing.{Stands}

-- ---- given from a state
given_there : {T : Type 0} → (part : Option T) (now : T) → IsSome part → IsSome (given part now)
given_there None now there = search rules
given_there (Some was) now there = refl

client_given : (number : ℕ) (own : Option Session) (c : Client) → IsSomeAnd own (λ o. o.number ≡ number) → IsSomeAnd (given_client own c) (λ o. o.number ≡ number)
client_given number None c there = absurd there
client_given number (Some own) c there = there

session_given : (n session number : ℕ) (sessions : List (Option Session)) (clients : List Client) → IsSomeAnd (slice_index_or sessions session None) (λ o. o.number ≡ number) → IsSomeAnd (slice_index_or (given_sessions n sessions clients) session None) (λ o. o.number ≡ number)
unfolding given_sessions
session_given zero session number sessions clients there = there
session_given (suc n) session number [] clients there = there
session_given (suc n) session number (s ∷ sessions) [] there = there
session_given (suc n) zero number (s ∷ sessions) (c ∷ clients) there = client_given number s c there
session_given (suc n) (suc session) number (s ∷ sessions) (c ∷ clients) there = session_given n session number sessions clients there

node_given : (node : ℕ) (nodes : List (Option InstanceEntry)) (part : Option Node) → IsSomeAnd part (λ n. n.node ≡ node) → IsSomeAnd (given_node nodes part) (λ n. n.node ≡ node)
node_given node nodes None there = absurd there
node_given node nodes (Some n) there = there

cells_given : (rows : List Row) (part : Option CellRows) → IsSome part → IsSome (given_rows rows part)
cells_given rows None there = search rules
cells_given rows (Some cells) there = refl

master_given : (master : MasterRecord) (part : Option Record) → IsSome part → IsSome (given_master master part)
master_given master None there = search rules
master_given master (Some record_there) there = refl

abbrev HasRules : SetupNumbers → Option Record → Type 0
HasRules setup part = IfSome part (λ p. p.rules ≡ rules_of setup)

rules_given : (setup : SetupNumbers) (master : MasterRecord) (part : Option Record) → HasRules setup part → HasRules setup (given_master master part)
rules_given setup master None leases = tt
rules_given setup master (Some there) leases = leases

stands_given : (session node : ℕ) (l : Parts) (w : State) → Stands session node l → Stands session node (given_from l w)
stands_given session node l w is = record {
  session_there = session_given 16 session session l.sessions w.clients is.session_there;
  clock = is.clock;
  node_there = node_given node w.nodes l.node is.node_there;
  cells = cells_given w.rows l.cells is.cells;
  master = master_given w.master l.master is.master;
  leases = rules_given l.plan.setup w.master l.master is.leases;
}

-- ---- with a call counted
cells_counted : (part : Option CellRows) → IsSome part → IsSome (cells_called part)
cells_counted None there = search rules
cells_counted (Some cells) there = refl

master_counted : (part : Option Record) → IsSome part → IsSome (master_called part)
master_counted None there = search rules
master_counted (Some record_there) there = refl

rules_counted : (setup : SetupNumbers) (part : Option Record) → HasRules setup part → HasRules setup (master_called part)
rules_counted setup None leases = tt
rules_counted setup (Some there) leases = leases

stands_called : (session node : ℕ) (asked : Option Store) (l : Parts) → Stands session node l → Stands session node (called asked l)
stands_called session node None l is = is
stands_called session node (Some store.Cells) l is = record {
  session_there = is.session_there;
  clock = is.clock;
  node_there = is.node_there;
  cells = cells_counted l.cells is.cells;
  master = is.master;
  leases = is.leases;
}
stands_called session node (Some store.Table) l is = record {
  session_there = is.session_there;
  clock = is.clock;
  node_there = is.node_there;
  cells = is.cells;
  master = is.master;
  leases = is.leases;
}
stands_called session node (Some store.Master) l is = record {
  session_there = is.session_there;
  clock = is.clock;
  node_there = is.node_there;
  cells = is.cells;
  master = master_counted l.master is.master;
  leases = rules_counted l.plan.setup l.master is.leases;
}

-- ---- with the event noted
stands_noted : (session node : ℕ) (e : machine.Event) (l : Parts) → Stands session node l → Stands session node (noted e l)
stands_noted session node (timed.Tick to) l is = record {
  session_there = is.session_there;
  clock = given_there l.clock to is.clock;
  node_there = is.node_there;
  cells = is.cells;
  master = is.master;
  leases = is.leases;
}
stands_noted session node (timed.Note actor note) l is = record {
  session_there = is.session_there;
  clock = is.clock;
  node_there = is.node_there;
  cells = is.cells;
  master = is.master;
  leases = is.leases;
}
stands_noted session node _ l is = is

-- ---- an event
pub stands_after : (session node : ℕ) (l now : Parts) (e : machine.Event) (acted : Acted) → Stands session node l → Acts l now e acted → Stands session node now
stands_after session node l now e acted is acts =
    subst (Stands session node) (sym acts.parts)
    (stands_noted session node e _ (stands_called session node (asked_of l e) _ (stands_given session node l (step_of l e).state is)))
