-- Edges that hold in all stamps.
use Rattle.std.specs.Prelude.{◌≡◌, ◌≢◌, ℕ, ◌+◌, ◌-◌, ◌<◌, nat_lt, Bool, true, false, List, [], ◌∷◌, ◌++◌, Option, Some, None, length, slice_get}
use Rattle.trace_rules.specs.declared.trace.Operation.{Operation}
use Rattle.trace_rules.specs.declared.trace.Transaction.{Transaction}
use Rattle.trace_rules.specs.declared.trace.Version.{Version}
use Rattle.trace_rules.specs.declared.wanted.Level.{Level}
use Rattle.trace_rules.specs.declared.wanted.Level.TheVariants.{Snapshot, Serializable}
use Rattle.trace_rules.specs.Trace.{Trace}
use Rattle.trace_rules.specs.Stamping.{Asked, Point, Start, Commit}
use Rattle.trace_rules.specs.Below.{Below}
use Rattle.rising_numbers.specs.declared.Edge.{Edge}
use Rattle.rising_numbers.specs.Rises.{AreWithin}
use Rattle.outer_reads.specs.declared.writings.Writing.{Writing}
use Rattle.outer_reads.specs.declared.readings.Reading.{Reading}
use Rattle.outer_reads.specs.Sources.{AreKnown, trace_of}

-- how many of the nodes are starts: under Serializable a transaction is one point
abbrev pub starts_of : Level → ℕ → ℕ
starts_of Snapshot n = n
starts_of Serializable n = 0

abbrev pub pick : Bool → ℕ → ℕ → Point
pick true starts x = Start x
pick false starts x = Commit (x - starts)

-- the starts stand before the commits
abbrev pub point_of : ℕ → ℕ → Point
point_of starts x = pick (nat_lt x starts) starts x

-- each edge holds in all stamps that keep what is asked for
abbrev pub AreForced : Level → Asked → Trace → ℕ → List Edge → Type 0
AreForced level asked trace starts edges = (place : ℕ) (edge : Edge) → slice_get edges place ≡ Some edge → Below level asked trace (point_of starts edge.from) (point_of starts edge.to)

-- the edges are between nodes, and hold, whatever is asked for, in all stamps of a trace of which these are the reads and versions
pub record AreLaid (transactions : List Transaction) (readings : List Reading) (order : List Writing) (starts nodes : ℕ) (edges : List Edge) : Type 0 where
  pub within : AreWithin nodes edges
  pub forced : (level : Level) (asked : Asked) (operations : List Operation) → starts ≡ starts_of level (length transactions) → AreKnown (trace_of transactions operations) readings order → AreForced level asked (trace_of transactions operations) starts edges

-- ---- the edges that are laid
-- the next version's writer read the same as the reader did, or this read nothing
pub record ReadsSame (readings : List Reading) (found : Version) (b : Writing) : Type 0 where
  pub place : ℕ
  pub reading : Reading
  pub same : Version
  pub stands : slice_get readings place ≡ Some reading
  pub txn : reading.txn ≡ b.txn
  pub key : reading.key ≡ b.key
  pub answer : reading.answer ≡ Some same
  pub from : same.from ≡ found.from

abbrev pub IsWitnessed : List Reading → Option Version → Writing → Type 0
IsWitnessed readings None b = Unit {0}
IsWitnessed readings (Some found) b = ReadsSame readings found b

abbrev pub IsOf : Option Version → ℕ → Type 0
IsOf answer from = (same : Version) × (answer ≡ Some same) × (same.from ≡ from)

-- from what was read to the reader, and from the reader to the next version's writer
pub data IsSure (readings : List Reading) (order : List Writing) (starts : ℕ) (edge : Edge) : Type 0 where
  OfRead : (i : ℕ) (r : Reading) (found : Version) → slice_get readings i ≡ Some r → r.answer ≡ Some found → edge.from ≡ starts + found.from → edge.to ≡ r.txn → IsSure readings order starts edge
  OfMissed : (i next : ℕ) (r : Reading) (b : Writing) → slice_get readings i ≡ Some r → slice_get order next ≡ Some b → b.key ≡ r.key → b.txn ≢ r.txn → IsWitnessed readings r.answer b → edge.from ≡ r.txn → edge.to ≡ starts + b.txn → IsSure readings order starts edge
  -- where the reader wrote the key too, neither of the two begins before the other is committed
  OfApart : (i next mine : ℕ) (r : Reading) (b own : Writing) → slice_get readings i ≡ Some r → slice_get order next ≡ Some b → slice_get order mine ≡ Some own → b.key ≡ r.key → b.txn ≢ r.txn → own.key ≡ r.key → own.txn ≡ r.txn → IsWitnessed readings r.answer b → edge.from ≡ starts + r.txn → edge.to ≡ b.txn → IsSure readings order starts edge

-- the edge is laid, or left out where it is not between nodes
pub data MayLay (nodes : ℕ) (edge : Edge) (old new : List Edge) : Type 0 where
  LeftOut : new ≡ old → MayLay nodes edge old new
  LaidOn : new ≡ old ++ edge ∷ [] → edge.from < nodes → edge.to < nodes → MayLay nodes edge old new
