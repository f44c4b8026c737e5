-- What is known of a trace's writers and readers.
use Rattle.std.specs.Prelude.{◌≡◌, ◌≢◌, ℕ, ◌<◌, ◌&&◌, Bool, nat_eq, List, Option, Some, None, length, slice_get}
use Rattle.std.specs.declared.hash.FoldHasher.{FoldHasher}
use Rattle.std.specs.declared.hash.BuildHasherDefault.{BuildHasherDefault}
use Rattle.std.specs.HashMap as hash
use Rattle.std.specs.HashMap.{HashMap}
use Rattle.trace_rules.specs.declared.trace.Version.{Version}
use Rattle.trace_rules.specs.declared.trace.Operation.{Operation}
use Rattle.trace_rules.specs.declared.trace.Operation.TheVariants.{Write}
use Rattle.trace_rules.specs.declared.trace.Transaction.{Transaction}
use Rattle.trace_rules.specs.Trace.{Trace, Done, Writer, ReadAt, last_of}
use Rattle.trace_rules.specs.Rising.{Sourced}
use Rattle.outer_reads.specs.declared.writings.Writing.{Writing}
use Rattle.outer_reads.specs.declared.readings.Reading.{Reading}
use Rattle.outer_reads.specs.declared.readings.Look.{Look}
use Rattle.outer_reads.specs.declared.readings.Look.TheVariants.{Outer, Right, Wrong}
use Rattle.outer_reads.specs.declared.readings.Found.{Found}
use Rattle.outer_reads.specs.declared.sources.Sources.{Sources}
use Rattle.outer_reads.specs.declared.sources.Sources.TheVariants.{Known, WrongRead}
use Rattle.outer_reads.specs.declared.readings.Found.TheVariants.{AllRight, WrongAt}

abbrev pub pair_eq : ℕ × ℕ → ℕ × ℕ → Bool
pair_eq x y = nat_eq x.0 y.0 && nat_eq x.1 y.1

abbrev pub trace_of : List Transaction → List Operation → Trace
trace_of transactions operations = record { transactions = transactions; operations = operations }

-- values, by transaction and key
abbrev pub Values : Type 0
Values = HashMap (ℕ × ℕ) ℕ (BuildHasherDefault FoldHasher)

-- the map has, by transaction and key, the last value that the transaction wrote there
abbrev pub HasLast : List Operation → Values → Type 0
HasLast part values = (t k : ℕ) → hash.get pair_eq values (t, k) ≡ last_of part t k

-- the versions of committed transactions, each and no others
pub record AreWritings (trace : Trace) (writings : List Writing) : Type 0 where
  pub wrote : (place : ℕ) (w : Writing) → slice_get writings place ≡ Some w → Writer trace w.txn w.key w.value
  pub all : (t k value : ℕ) → Writer trace t k value → (place : ℕ) × (slice_get writings place ≡ Some (record { txn = t; key = k; value = value }))

-- a read of others, by a committed transaction that had not written the key
abbrev pub IsReading : Trace → Reading → Type 0
IsReading trace r = ReadAt trace r.place r.txn r.key r.answer None

-- the reads of others below the place, each and no others
pub record AreReadings (trace : Trace) (until : ℕ) (readings : List Reading) : Type 0 where
  pub read : (i : ℕ) (r : Reading) → slice_get readings i ≡ Some r → IsReading trace r
  pub all : (place t k : ℕ) (answer : Option Version) → place < until → ReadAt trace place t k answer None → (i : ℕ) × (slice_get readings i ≡ Some (record { place = place; txn = t; key = k; answer = answer }))

-- below the place each read of a key that its transaction wrote before is of that write
abbrev pub OwnRight : Trace → ℕ → Type 0
OwnRight trace until = (place t k own : ℕ) (answer : Option Version) → place < until → ReadAt trace place t k answer (Some own) → answer ≡ Some (record { from = t; value = own })

-- a read that no stamps allow: of a key that its transaction wrote before, and not of that write; or of a version that is no
-- committed transaction's last one
pub data IsWrong (trace : Trace) (place : ℕ) : Type 0 where
  NotOwn : (t k own : ℕ) (answer : Option Version) → ReadAt trace place t k answer (Some own) → answer ≢ Some (record { from = t; value = own }) → IsWrong trace place
  NoVersion : (t k : ℕ) (found : Version) → ReadAt trace place t k (Some found) None → (Writer trace found.from k found.value → ⊥) → IsWrong trace place

-- the operation leaves this version
pub record Leaves (trace : Trace) (operation : Operation) (w : Writing) : Type 0 where
  pub is : operation ≡ Write w.txn w.key w.value
  pub done : Done trace w.txn
  pub last : last_of trace.operations w.txn w.key ≡ Some w.value

pub record LeavesNone (trace : Trace) (operation : Operation) : Type 0 where
  pub none : (w : Writing) → Leaves trace operation w → ⊥

-- of the operations below the place, each version that they leave and no others
pub record WritingsTo (trace : Trace) (until : ℕ) (writings : List Writing) : Type 0 where
  pub wrote : (place : ℕ) (w : Writing) → slice_get writings place ≡ Some w → Writer trace w.txn w.key w.value
  pub all : (p : ℕ) (operation : Operation) (w : Writing) → p < until → slice_get trace.operations p ≡ Some operation → Leaves trace operation w → (i : ℕ) × (slice_get writings i ≡ Some w)

-- what stands at the place is a read of others
pub record OuterAt (trace : Trace) (place : ℕ) (r : Reading) : Type 0 where
  pub reading : IsReading trace r
  pub at : r.place ≡ place

-- or it is none, and is right where it is a read
pub record RightAt (trace : Trace) (place : ℕ) : Type 0 where
  pub none : (t k : ℕ) (answer : Option Version) → ReadAt trace place t k answer None → ⊥
  pub own : (t k own : ℕ) (answer : Option Version) → ReadAt trace place t k answer (Some own) → answer ≡ Some (record { from = t; value = own })

abbrev pub IsLook : Trace → ℕ → Look → Type 0
IsLook trace place (Outer r) = OuterAt trace place r
IsLook trace place Right = RightAt trace place
IsLook trace place Wrong = IsWrong trace place

pub record AreRight (trace : Trace) (until : ℕ) (readings : List Reading) : Type 0 where
  pub outer : AreReadings trace until readings
  pub own : OwnRight trace until

abbrev pub AreFound : Trace → ℕ → Found → Type 0
AreFound trace until (AllRight readings) = AreRight trace until readings.items
AreFound trace until (WrongAt place) = IsWrong trace place

abbrev pub IsOwnLook : Option Version → ℕ → ℕ → Look → Type 0
IsOwnLook answer t own (Outer r) = ⊥
IsOwnLook answer t own Right = answer ≡ Some (record { from = t; value = own })
IsOwnLook answer t own Wrong = answer ≢ Some (record { from = t; value = own })

-- what was read of others is a version
abbrev pub HasSource : Trace → ℕ → Option Version → Type 0
HasSource trace k None = Unit {0}
HasSource trace k (Some found) = Writer trace found.from k found.value

-- the reads of others, each of a version, and the versions
pub record AreKnown (trace : Trace) (readings : List Reading) (writings : List Writing) : Type 0 where
  pub sourced : Sourced trace
  pub read : AreReadings trace (length trace.operations) readings
  pub wrote : AreWritings trace writings

abbrev pub AreSources : Trace → Sources → Type 0
AreSources trace (Known readings writings) = AreKnown trace readings.items writings.items
AreSources trace (WrongRead place) = IsWrong trace place
