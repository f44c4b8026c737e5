-- What lists tell.
use Rattle.std.specs.Prelude.{◌≡◌, ℕ, List, Option, None, Some, slice_get}
use Rattle.trace_rules.specs.declared.wanted.Level.{Level}
use Rattle.trace_rules.specs.Trace.{Trace, Done}
use Rattle.trace_rules.specs.Stamping.{IsolatedBy, Keeps, Stamping}
use Rattle.version_ranks.specs.declared.rank.Rank.{Rank}
use Rattle.version_ranks.specs.Ranks.{by_rank}
use Rattle.list_orders.specs.declared.listing.Listing.{Listing}
use Rattle.list_orders.specs.Lists.{WriteAt}
use Rattle.list_orders.specs.Listings.{SeesAll, values_of}
use Rattle.list_ranks.specs.declared.told.Told.{Told}
use Rattle.list_ranks.specs.declared.told.Told.TheVariants as told
use Rattle.list_ranks.specs.Wrong.{IsWrong}

-- The ranks tell, besides these versions, just what the lists do: stamps that isolate the trace keep them where they have the lists
-- read right, and only there. All are of committed transactions, where those of the versions are.
pub record AreTold (trace : Trace) (listed : List ℕ) (lists : List Listing) (versions ranks : List Rank) : Type 0 where
  pub keeps : (level : Level) (st : Stamping) → IsolatedBy level st trace → Keeps (by_rank versions) st → SeesAll st trace listed lists → Keeps (by_rank ranks) st
  pub sees : (level : Level) (st : Stamping) → IsolatedBy level st trace → Keeps (by_rank ranks) st → SeesAll st trace listed lists
  pub fewer : (st : Stamping) → Keeps (by_rank ranks) st → Keeps (by_rank versions) st
  pub done : ((p : ℕ) (r : Rank) → slice_get versions p ≡ Some r → Done trace r.txn) → (p : ℕ) (r : Rank) → slice_get ranks p ≡ Some r → Done trace r.txn

abbrev pub IsTold : Trace → List ℕ → List Listing → List Rank → Told → Type 0
IsTold trace listed lists versions (told.Ranks ranks) = AreTold trace listed lists versions ranks.items
IsTold trace listed lists versions (told.Wrong wrong) = IsWrong trace listed lists wrong
IsTold trace listed lists versions told.Unknown = Unit {0}

-- ---- members of committed transactions
-- a committed transaction wrote the value at the key
pub record HasDone (trace : Trace) (key value : ℕ) : Type 0 where
  pub place : ℕ
  pub txn : ℕ
  pub wrote : WriteAt trace place txn key value
  pub done : Done trace txn

abbrev pub AreDoneMembers : Trace → List ℕ → Listing → Type 0
AreDoneMembers trace listed l = (j v : ℕ) → slice_get (values_of listed l) j ≡ Some v → HasDone trace l.key v

-- each member of a list that a committed transaction read is of a committed one
pub record AllDone (trace : Trace) (listed : List ℕ) (lists : List Listing) : Type 0 where
  pub each : (i : ℕ) → (l : Listing) → slice_get lists i ≡ Some l → Done trace l.txn → AreDoneMembers trace listed l

-- a list that a committed transaction read has a member that is of none
pub record IsDirtyList (trace : Trace) (listed : List ℕ) (lists : List Listing) (l : Listing) : Type 0 where
  pub i : ℕ
  pub stands : slice_get lists i ≡ Some l
  pub done : Done trace l.txn
  pub j : ℕ
  pub value : ℕ
  pub at : slice_get (values_of listed l) j ≡ Some value
  pub none : HasDone trace l.key value → ⊥
