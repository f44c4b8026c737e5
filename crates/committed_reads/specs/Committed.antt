-- The level at which each read is of a committed transaction's last write.
use Rattle.std.specs.Prelude.{◌≡◌, ℕ, ◌<◌, List, ◌∷◌, [], ◌++◌, Some, slice_get}
use Rattle.trace_rules.specs.declared.trace.Version.{Version}
use Rattle.trace_rules.specs.Trace.{Trace, OuterRead}
use Rattle.trace_rules.specs.Rising.{Sourced}
use Rattle.rising_numbers.specs.declared.Edge.{Edge}
use Rattle.rising_numbers.specs.Rises.{AreWithin}
use Rattle.outer_reads.specs.declared.readings.Reading.{Reading}
use Rattle.outer_reads.specs.Sources.{IsWrong}
use Rattle.committed_reads.specs.declared.Verdict.{Verdict}
use Rattle.committed_reads.specs.declared.Verdict.TheVariants.{Holds, WrongRead, Refused}

-- Committed transactions read what such transactions wrote last, and of a key that they wrote themselves their own last write; and
-- there is an order in which each reads only of those before it.
pub record CommittedReads (trace : Trace) : Type 0 where
  pub sourced : Sourced trace
  pub order : ℕ → ℕ
  pub rises : (t k : ℕ) (found : Version) → OuterRead trace t k (Some found) → order found.from < order t

abbrev pub IsVerdict : Trace → Verdict → Type 0
IsVerdict trace (Holds numbers) = CommittedReads trace
IsVerdict trace (WrongRead place) = IsWrong trace place × (CommittedReads trace → ⊥)
IsVerdict trace (Refused cycle) = CommittedReads trace → ⊥

-- ---- the edges
-- from the transaction that was read from to the reader
pub record IsReadEdge (readings : List Reading) (edge : Edge) : Type 0 where
  pub place : ℕ
  pub reading : Reading
  pub found : Version
  pub stands : slice_get readings place ≡ Some reading
  pub answer : reading.answer ≡ Some found
  pub from : edge.from ≡ found.from
  pub to : edge.to ≡ reading.txn

-- of the readings below the place, each that has such an edge between transactions, and no others
pub record AreReadEdges (count : ℕ) (readings : List Reading) (until : ℕ) (edges : List Edge) : Type 0 where
  pub within : AreWithin count edges
  pub each : (place : ℕ) (edge : Edge) → slice_get edges place ≡ Some edge → IsReadEdge readings edge
  pub all : (i : ℕ) (r : Reading) (found : Version) → i < until → slice_get readings i ≡ Some r → r.answer ≡ Some found → found.from < count → r.txn < count → (place : ℕ) × (slice_get edges place ≡ Some (record { from = found.from; to = r.txn }))

-- the edge is laid where it is between transactions
pub data IsPushed (count : ℕ) (edge : Edge) (old new : List Edge) : Type 0 where
  LaidOn : edge.from < count → edge.to < count → new ≡ old ++ edge ∷ [] → IsPushed count edge old new
  LeftOut : (edge.from < count → edge.to < count → ⊥) → new ≡ old → IsPushed count edge old new
