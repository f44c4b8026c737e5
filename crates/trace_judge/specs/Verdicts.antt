-- What a verdict says.
use Rattle.std.specs.Prelude.{◌≡◌, ◌≢◌, ℕ, List, Some, IfSome, length, slice_get}
use Rattle.trace_rules.specs.declared.trace.Operation.{Operation}
use Rattle.trace_rules.specs.declared.wanted.Level.{Level}
use Rattle.trace_rules.specs.Trace.{Trace, Writer}
use Rattle.trace_rules.specs.Stamping.{Asked, IsolatedBy, Keeps, Stampable}
use Rattle.outer_reads.specs.declared.writings.Writing.{Writing}
use Rattle.outer_reads.specs.declared.readings.Reading.{Reading}
use Rattle.outer_reads.specs.Sources.{AreKnown, IsWrong, trace_of}
use Rattle.trace_edges.specs.Edges.{starts_of}
use Rattle.asked_orders.specs.declared.edges.Nodes.{Nodes}
use Rattle.asked_orders.specs.Keeps.{stamping_of}
use Rattle.version_orders.specs.Orders.{Task, asked_by}
use Rattle.trace_judge.specs.declared.Verdict.{Verdict}
use Rattle.trace_judge.specs.declared.Verdict.TheVariants.{Holds, WrongRead, Refused, Undecided}

-- no stamps make the trace isolated and keep what is asked for
abbrev pub NoStamps : Level → Asked → Trace → Type 0
NoStamps level asked trace = Stampable level asked trace → ⊥

-- the stamps that these numbers make isolate the trace, and keep what is asked for
pub record AreStamps (level : Level) (asked : Asked) (trace : Trace) (numbers : List ℕ) : Type 0 where
  pub isolated : IsolatedBy level (stamping_of level (length trace.transactions) numbers) trace
  pub keeps : Keeps asked (stamping_of level (length trace.transactions) numbers)

-- two transactions wrote the key, and an order of them was tried
pub record IsTried (trace : Trace) (key : ℕ) : Type 0 where
  pub first : ℕ
  pub second : ℕ
  pub value : ℕ
  pub other : ℕ
  pub apart : first ≢ second
  pub one : Writer trace first key value
  pub two : Writer trace second key other

abbrev pub IsVerdict : Level → Asked → Trace → Verdict → Type 0
IsVerdict level asked trace (Holds numbers) = AreStamps level asked trace numbers.items
IsVerdict level asked trace (WrongRead place) = IsWrong trace place × NoStamps level asked trace
IsVerdict level asked trace (Refused cycle) = NoStamps level asked trace
IsVerdict level asked trace (Undecided key) = IfSome key (λ k. IsTried trace k)

-- no stamps keep what is asked for and make a trace isolated of which these are the reads and versions
abbrev pub Refuses : Task → List Reading → List Writing → Nodes → Type 0
Refuses task readings order nodes = (operations : List Operation) → nodes.starts ≡ starts_of task.level (length task.transactions) → AreKnown (trace_of task.transactions operations) readings order → NoStamps task.level (asked_by task operations) (trace_of task.transactions operations)

-- the order has two versions of the key, by different writers
pub record IsShared (order : List Writing) (key : ℕ) : Type 0 where
  pub i : ℕ
  pub j : ℕ
  pub a : Writing
  pub b : Writing
  pub at_a : slice_get order i ≡ Some a
  pub at_b : slice_get order j ≡ Some b
  pub key_a : a.key ≡ key
  pub key_b : b.key ≡ key
  pub apart : a.txn ≢ b.txn
