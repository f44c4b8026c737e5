-- Ranks that tell what a key's longest list does.
use Rattle.std.specs.Prelude.{◌≡◌, ℕ, suc, ◌<◌, ◌≤◌, ◌⊎◌, List, Some, length, slice_get}
use Rattle.trace_rules.specs.Trace.{Trace, Done}
use Rattle.version_ranks.specs.declared.rank.Rank.{Rank}
use Rattle.list_orders.specs.Lists.{WriteAt}

-- the transaction's version of the key has this number
pub record IsRanked (ranks : List Rank) (key version t : ℕ) : Type 0 where
  pub place : ℕ
  pub stands : slice_get ranks place ≡ Some (record { key = key; version = version; txn = t })

-- a value that the list lacks is of its last member's writer, and written behind that
pub record IsCutOff (values : List ℕ) (place writer : ℕ → ℕ) (q w : ℕ) : Type 0 where
  pub last : ℕ
  pub value : ℕ
  pub end : suc last ≡ length values
  pub at : slice_get values last ≡ Some value
  pub same : w ≡ writer last
  pub behind : place last < q

-- Each member of the list stands where its place says, by its writer. Versions of writers rise along the list, and what it lacks
-- comes behind it. The ranks of this name are just these versions.
pub record TellsKey (trace : Trace) (ranks : List Rank) (name k : ℕ) (values : List ℕ) : Type 0 where
  pub place : ℕ → ℕ
  pub writer : ℕ → ℕ
  pub version : ℕ → ℕ
  pub wrote : (i v : ℕ) → slice_get values i ≡ Some v → WriteAt trace (place i) (writer i) k v
  pub done : (i v : ℕ) → slice_get values i ≡ Some v → Done trace (writer i)
  pub once : (i v q w : ℕ) → slice_get values i ≡ Some v → WriteAt trace q w k v → q ≡ place i
  pub rises : (i : ℕ) → suc i < length values → ((writer i ≡ writer (suc i)) × (place i < place (suc i))) ⊎ (version (writer i) < version (writer (suc i)))
  pub low : (i : ℕ) → i < length values → version (writer i) < length values
  pub rest : (q w v : ℕ) → WriteAt trace q w k v → Done trace w → ((i : ℕ) × (slice_get values i ≡ Some v)) ⊎ (version w ≡ length values) ⊎ IsCutOff values place writer q w
  pub ranked : (q w v : ℕ) → WriteAt trace q w k v → Done trace w → IsRanked ranks name (version w) w
  pub only : (n w : ℕ) → IsRanked ranks name n w → (n ≡ version w) × (q : ℕ) × (v : ℕ) × WriteAt trace q w k v × Done trace w

-- the one list begins with the other
pub record IsBegun (all values : List ℕ) : Type 0 where
  pub short : length values ≤ length all
  pub same : (i : ℕ) → i < length values → slice_get values i ≡ slice_get all i
