-- Parts that are given from a state, and what giving leaves alone.
use Rattle.split_parts.proofs.Names.{◌≡◌, ℕ, zero, suc, List, [], ◌∷◌, length, slice_set, Option, Some, None, refl, ap}
use Rattle.split_parts.proofs.Names.{arith, ◌^◌, slice_index_or, IfSome, Store, PlannedFault, Row, Pairs, MasterRecord}
use Rattle.split_parts.proofs.Names.{Leasing, InstanceEntry, State, CallsFit, Parts, Node, CellRows, Marks, Record}
use Rattle.split_parts.proofs.Names.{or_else, given, given_node, given_rows, given_pairs, given_master, given_from}
use Rattle.split_parts.proofs.Names.{lent_nodes, lent_rows, lent_pairs, lent_master, with_lent, called, cells_called}
use Rattle.split_parts.proofs.Names.{table_called, master_called, fate_of, cells_fate, table_fate, master_fate}
use Rattle.std.specs.Prelude.{◌<◌}
use Rattle.stamp_base.specs.declared.stores.Store.TheVariants as store
use Rattle.split_parts.proofs.Handing.{sessions_back, sessions_twice}

-- ---- a part that is given from the state that has it is as it was
back : {T : Type 0} → (part : Option T) (there : T) → given part (or_else part there) ≡ part
back None there = refl
back (Some p) there = refl

-- the element that was set, or the default where there is no such place
set_or : {X : Type 0} → (xs : List X) (n : ℕ) (x : X) → slice_index_or (slice_set xs n x) n x ≡ x
set_or [] n x = refl
set_or (y ∷ ys) zero x = refl
set_or (y ∷ ys) (suc n) x = set_or ys n x

node_back : (nodes : List (Option InstanceEntry)) (part : Option Node) → given_node (lent_nodes nodes part) part ≡ part
node_back nodes None = refl
node_back nodes (Some n) = ap (λ (i : Option InstanceEntry). Some (record n { instance = i })) (set_or nodes n.node n.instance)

rows_back : (rows : List Row) (part : Option CellRows) → given_rows (lent_rows rows part) part ≡ part
rows_back rows None = refl
rows_back rows (Some p) = refl

pairs_back : (pairs : Pairs) (part : Option Marks) → given_pairs (lent_pairs pairs part) part ≡ part
pairs_back pairs None = refl
pairs_back pairs (Some p) = refl

master_back : (master : MasterRecord) (part : Option Record) → given_master (lent_master master part) part ≡ part
master_back master None = refl
master_back master (Some p) = refl

pub given_back : (w : State) (l : Parts) → given_from l (with_lent w l) ≡ l
given_back w l = λ k. record l {
  sessions = sessions_back 16 w.clients l.sessions k;
  janitor = back l.janitor w.sweep k;
  node = node_back w.nodes l.node k;
  cells = rows_back w.rows l.cells k;
  table = pairs_back w.pairs l.table k;
  master = master_back w.master l.master k;
}

-- ---- what was given in between is forgotten
over : {T : Type 0} → (part : Option T) (a b : T) → given (given part a) b ≡ given part b
over None a b = refl
over (Some p) a b = refl

-- an element where it is, whatever stands in for it
or_same : {X : Type 0} → (xs ys : List X) (n : ℕ) (d : X) → length xs ≡ length ys → slice_index_or ys n (slice_index_or xs n d) ≡ slice_index_or ys n d
or_same [] [] n d same = refl
or_same [] (y ∷ ys) n d same = absurd (omega (arith, same))
or_same (x ∷ xs) [] n d same = absurd (omega (arith, same))
or_same (x ∷ xs) (y ∷ ys) zero d same = refl
or_same (x ∷ xs) (y ∷ ys) (suc n) d same = or_same xs ys n d (omega (arith, same))

node_over : (nodes others : List (Option InstanceEntry)) (part : Option Node) → length nodes ≡ length others → given_node others (given_node nodes part) ≡ given_node others part
node_over nodes others None same = refl
node_over nodes others (Some n) same = ap (λ (i : Option InstanceEntry). Some (record n { instance = i })) (or_same nodes others n.node n.instance same)

rows_over : (a b : List Row) (part : Option CellRows) → given_rows b (given_rows a part) ≡ given_rows b part
rows_over a b None = refl
rows_over a b (Some p) = refl

pairs_over : (a b : Pairs) (part : Option Marks) → given_pairs b (given_pairs a part) ≡ given_pairs b part
pairs_over a b None = refl
pairs_over a b (Some p) = refl

master_over : (a b : MasterRecord) (part : Option Record) → given_master b (given_master a part) ≡ given_master b part
master_over a b None = refl
master_over a b (Some p) = refl

pub given_twice : (l : Parts) (w v : State) → length w.clients ≡ 16 → length v.clients ≡ 16 → length w.nodes ≡ length v.nodes → given_from (given_from l w) v ≡ given_from l v
given_twice l w v many others same = λ k. record l {
  sessions = sessions_twice 16 l.sessions w.clients v.clients (omega (arith, many)) (omega (arith, others)) k;
  janitor = over l.janitor w.sweep v.sweep k;
  node = node_over w.nodes v.nodes l.node same k;
  cells = rows_over w.rows v.rows l.cells k;
  table = pairs_over w.pairs v.pairs l.table k;
  master = master_over w.master v.master l.master k;
}

-- ---- the counts of calls stay, and a count leaves what is given
rows_called : (rows : List Row) (part : Option CellRows) → given_rows rows (cells_called part) ≡ cells_called (given_rows rows part)
rows_called rows None = refl
rows_called rows (Some p) = refl

pairs_called : (pairs : Pairs) (part : Option Marks) → given_pairs pairs (table_called part) ≡ table_called (given_pairs pairs part)
pairs_called pairs None = refl
pairs_called pairs (Some p) = refl

record_called : (master : MasterRecord) (part : Option Record) → given_master master (master_called part) ≡ master_called (given_master master part)
record_called master None = refl
record_called master (Some p) = refl

pub given_called : (asked : Option Store) (l : Parts) (w : State) → given_from (called asked l) w ≡ called asked (given_from l w)
given_called None l w = refl
given_called (Some store.Cells) l w = ap (λ (p : Option CellRows). record (given_from l w) { cells = p }) (rows_called w.rows l.cells)
given_called (Some store.Table) l w = ap (λ (p : Option Marks). record (given_from l w) { table = p }) (pairs_called w.pairs l.table)
given_called (Some store.Master) l w = ap (λ (p : Option Record). record (given_from l w) { master = p }) (record_called w.master l.master)

rows_fate : (faults : List PlannedFault) (rows : List Row) (part : Option CellRows) → cells_fate faults (given_rows rows part) ≡ cells_fate faults part
rows_fate faults rows None = refl
rows_fate faults rows (Some p) = refl

pairs_fate : (faults : List PlannedFault) (pairs : Pairs) (part : Option Marks) → table_fate faults (given_pairs pairs part) ≡ table_fate faults part
pairs_fate faults pairs None = refl
pairs_fate faults pairs (Some p) = refl

record_fate : (faults : List PlannedFault) (master : MasterRecord) (part : Option Record) → master_fate faults (given_master master part) ≡ master_fate faults part
record_fate faults master None = refl
record_fate faults master (Some p) = refl

pub given_fate : (asked : Option Store) (l : Parts) (w : State) → fate_of (given_from l w) asked ≡ fate_of l asked
given_fate None l w = refl
given_fate (Some store.Cells) l w = rows_fate l.plan.faults w.rows l.cells
given_fate (Some store.Table) l w = pairs_fate l.plan.faults w.pairs l.table
given_fate (Some store.Master) l w = record_fate l.plan.faults w.master l.master

rows_fit : (rows : List Row) (part : Option CellRows) → IfSome part (λ p. p.calls < 2 ^ 60) → IfSome (given_rows rows part) (λ p. p.calls < 2 ^ 60)
rows_fit rows None few = tt
rows_fit rows (Some p) few = few

pairs_fit : (pairs : Pairs) (part : Option Marks) → IfSome part (λ p. p.calls < 2 ^ 60) → IfSome (given_pairs pairs part) (λ p. p.calls < 2 ^ 60)
pairs_fit pairs None few = tt
pairs_fit pairs (Some p) few = few

record_fit : (master : MasterRecord) (part : Option Record) → IfSome part (λ p. p.calls < 2 ^ 60) → IfSome (given_master master part) (λ p. p.calls < 2 ^ 60)
record_fit master None few = tt
record_fit master (Some p) few = few

pub given_fit : (asked : Option Store) (l : Parts) (w : State) → CallsFit l asked → CallsFit (given_from l w) asked
given_fit None l w fit = tt
given_fit (Some store.Cells) l w fit = rows_fit w.rows l.cells fit
given_fit (Some store.Table) l w fit = pairs_fit w.pairs l.table fit
given_fit (Some store.Master) l w fit = record_fit w.master l.master fit

-- the record leases as before
pub given_leases : (rules : Leasing) (master : MasterRecord) (part : Option Record) → IfSome part (λ p. p.rules ≡ rules) → IfSome (given_master master part) (λ p. p.rules ≡ rules)
given_leases rules master None same = tt
given_leases rules master (Some p) same = same

-- parts are the same where each of them is
pub same_parts : (a b : Parts) → a.plan ≡ b.plan → a.sessions ≡ b.sessions → a.janitor ≡ b.janitor → a.clock ≡ b.clock → a.node ≡ b.node → a.cells ≡ b.cells → a.table ≡ b.table → a.master ≡ b.master → a.names ≡ b.names → a ≡ b
same_parts a b plan sessions janitor clock node cells table master names =
    λ k. record { plan = plan k; sessions = sessions k; janitor = janitor k; clock = clock k; node = node k; cells = cells k; table = table k; master = master k; names = names k }
