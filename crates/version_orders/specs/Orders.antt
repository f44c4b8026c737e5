-- The order of a key's versions, and what follows of it, in all stamps.
use Rattle.std.specs.Prelude.{◌≡◌, ◌≢◌, ℕ, ◌+◌, ◌<◌, ◌≤◌, List, [], Some, None, length, slice_get}
use Rattle.trace_rules.specs.declared.trace.Operation.{Operation}
use Rattle.trace_rules.specs.declared.trace.Transaction.{Transaction}
use Rattle.trace_rules.specs.declared.trace.Version.{Version}
use Rattle.trace_rules.specs.declared.wanted.Level.{Level}
use Rattle.trace_rules.specs.declared.wanted.Times.{Times}
use Rattle.trace_rules.specs.declared.wanted.Wanted.{Wanted}
use Rattle.trace_rules.specs.Stamping.{Asked}
use Rattle.version_ranks.specs.declared.rank.Rank.{Rank}
use Rattle.version_ranks.specs.Ranks.{asked_with}
use Rattle.rising_numbers.specs.declared.Edge.{Edge}
use Rattle.rising_numbers.specs.Rises.{AreWithin, Leads}
use Rattle.outer_reads.specs.declared.writings.Writing.{Writing}
use Rattle.outer_reads.specs.declared.readings.Reading.{Reading}
use Rattle.outer_reads.specs.Sources.{AreKnown, trace_of}
use Rattle.trace_edges.specs.Edges.{starts_of}
use Rattle.asked_orders.specs.declared.edges.Nodes.{Nodes}
use Rattle.asked_orders.specs.Joins.{AreJoined, moments_for}
use Rattle.version_orders.specs.declared.candidates.Ends.{Ends}

-- what a trace is judged by, beside its operations: the level, what is asked for besides, the order of versions that is told, and a
-- chain of moments
pub record Task : Type 0 where
  pub level : Level
  pub wanted : Wanted
  pub transactions : List Transaction
  pub times : List Times
  pub ranks : List Rank
  pub chain : List ℕ

abbrev pub task_of : Level → Wanted → List Transaction → List Times → List Rank → List ℕ → Task
task_of level wanted transactions times ranks chain = record { level = level; wanted = wanted; transactions = transactions; times = times; ranks = ranks; chain = chain }

abbrev pub asked_by : Task → List Operation → Asked
asked_by task operations = asked_with task.wanted task.level task.times task.ranks (trace_of task.transactions operations)

-- the edges join the places of their nodes, with these operations
abbrev pub JoinsAll : Task → Nodes → List Operation → List Edge → Type 0
JoinsAll task nodes operations edges = AreJoined task.level (asked_by task operations) (moments_for task.wanted task.level task.times) (trace_of task.transactions operations) nodes.starts nodes.points task.chain edges

-- edges, one at least, lead one after another from x to y
pub record Lead (edges : List Edge) (x y : ℕ) : Type 0 where
  pub places : List ℕ
  pub some : places ≢ []
  pub leads : Leads edges x places y

-- this edge leads from x to y
pub record IsStep (edges : List Edge) (place x y : ℕ) : Type 0 where
  pub edge : Edge
  pub stands : slice_get edges place ≡ Some edge
  pub from : edge.from ≡ x
  pub to : edge.to ≡ y

-- the edges are between nodes, and hold in all stamps, that keep what is asked for, of a trace of which these are the reads and versions
pub record AreSure (task : Task) (readings : List Reading) (order : List Writing) (nodes : Nodes) (edges : List Edge) : Type 0 where
  pub room : nodes.points ≤ nodes.all
  pub within : AreWithin nodes.all edges
  pub joined : (operations : List Operation) → nodes.starts ≡ starts_of task.level (length task.transactions) → AreKnown (trace_of task.transactions operations) readings order → JoinsAll task nodes operations edges

-- the nodes of the transaction's start and commit
pub record AreEnds (nodes : Nodes) (txn : ℕ) (ends : Ends) : Type 0 where
  pub start : ends.start ≡ txn
  pub commit : ends.commit ≡ nodes.starts + txn
  pub within : nodes.starts + txn < nodes.points

-- two that wrote one key
pub record AreWriters (order : List Writing) (nodes : Nodes) (t u : Ends) : Type 0 where
  pub i : ℕ
  pub j : ℕ
  pub a : Writing
  pub b : Writing
  pub at_a : slice_get order i ≡ Some a
  pub at_b : slice_get order j ≡ Some b
  pub key : a.key ≡ b.key
  pub apart : a.txn ≢ b.txn
  pub first : AreEnds nodes a.txn t
  pub second : AreEnds nodes b.txn u

-- a reader that found nothing at a key that another wrote
pub record IsUnread (readings : List Reading) (order : List Writing) (nodes : Nodes) (reader : ℕ) (u : Ends) : Type 0 where
  pub i : ℕ
  pub j : ℕ
  pub r : Reading
  pub b : Writing
  pub at_r : slice_get readings i ≡ Some r
  pub at_b : slice_get order j ≡ Some b
  pub answer : r.answer ≡ None
  pub key : b.key ≡ r.key
  pub apart : b.txn ≢ r.txn
  pub reading : reader ≡ r.txn
  pub within : reader < nodes.points
  pub writer : AreEnds nodes b.txn u

-- a reader, whom it read from, and another writer of the key
pub record IsOther (readings : List Reading) (order : List Writing) (nodes : Nodes) (reader : ℕ) (f u : Ends) : Type 0 where
  pub i : ℕ
  pub j : ℕ
  pub r : Reading
  pub b : Writing
  pub found : Version
  pub at_r : slice_get readings i ≡ Some r
  pub at_b : slice_get order j ≡ Some b
  pub answer : r.answer ≡ Some found
  pub key : b.key ≡ r.key
  pub apart : b.txn ≢ r.txn
  pub other : b.txn ≢ found.from
  pub reading : reader ≡ r.txn
  pub within : reader < nodes.points
  pub source : AreEnds nodes found.from f
  pub writer : AreEnds nodes b.txn u

-- What edges that are sure make sure.
pub data Follows (readings : List Reading) (order : List Writing) (nodes : Nodes) (edges : List Edge) : Edge → Type 0 where
  -- of two writers of a key, the one whose start is below the other's commit is committed before the other starts
  OfPath : (t u : Ends) → AreWriters order nodes t u → Lead edges t.start u.commit → Follows readings order nodes edges (record { from = t.commit; to = u.start })
  -- a reader starts below the commit of each version that comes after the one that it read
  OfMissed : (reader : ℕ) (f u : Ends) → IsOther readings order nodes reader f u → Lead edges f.commit u.start → Follows readings order nodes edges (record { from = reader; to = u.commit })
  -- a version that is committed below a reader's start comes before the one that it read
  OfSeen : (reader : ℕ) (f u : Ends) → IsOther readings order nodes reader f u → Lead edges u.commit reader → Follows readings order nodes edges (record { from = u.commit; to = f.start })
  -- a reader that found nothing starts below the commit of each version
  OfNone : (reader : ℕ) (u : Ends) → IsUnread readings order nodes reader u → Follows readings order nodes edges (record { from = reader; to = u.commit })
