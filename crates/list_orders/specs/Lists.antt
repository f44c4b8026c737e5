-- What it means that a list was read right: it has the values of the writes that its reader sees, in their order.
use Rattle.std.specs.Prelude.{◌≡◌, ◌≢◌, ℕ, ◌<◌, ◌⊎◌, List, Some, slice_get}
use Rattle.trace_rules.specs.declared.trace.Operation.TheVariants.{Write}
use Rattle.trace_rules.specs.Trace.{Trace, Done}
use Rattle.trace_rules.specs.Stamping.{Stamping}

-- at this place the transaction writes the value at the key
abbrev pub WriteAt : Trace → ℕ → ℕ → ℕ → ℕ → Type 0
WriteAt trace q w k v = slice_get trace.operations q ≡ Some (Write w k v)

-- the writer was committed below the reader's start; or the write is the reader's own, before its read
abbrev pub IsSeen : Stamping → Trace → ℕ → ℕ → ℕ → ℕ → Type 0
IsSeen st trace place t q w = (Done trace w × (st.commit w < st.start t)) ⊎ ((w ≡ t) × (q < place))

-- of two writes the first comes first: one transaction's by their places, and others by the commits
abbrev pub ComesFirst : Stamping → ℕ → ℕ → ℕ → ℕ → Type 0
ComesFirst st q w r u = ((w ≡ u) × (q < r)) ⊎ ((w ≢ u) × (st.commit w < st.commit u))

-- the list that t read of k at this place
pub record SeesValues (st : Stamping) (trace : Trace) (place t k : ℕ) (values : List ℕ) : Type 0 where
  pub each : (i v : ℕ) → slice_get values i ≡ Some v → (q : ℕ) × (w : ℕ) × WriteAt trace q w k v × IsSeen st trace place t q w
  pub all : (q w v : ℕ) → WriteAt trace q w k v → IsSeen st trace place t q w → (i : ℕ) × (slice_get values i ≡ Some v)
  pub rises : (i j v x q w r u : ℕ) → i < j → slice_get values i ≡ Some v → slice_get values j ≡ Some x → WriteAt trace q w k v → WriteAt trace r u k x → ComesFirst st q w r u
