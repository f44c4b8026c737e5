-- The order of versions that is told by their numbers.
use Rattle.std.specs.Prelude.{◌≡◌, ℕ, ◌==◌, Bool, true, if◌then◌else◌, List, [], ◌∷◌, Option, None, Some, Result, Ok, Err, filter, map, slice_get}
use Rattle.std.specs.List.Sorted.{IsPermutation, IsSortedByKey}
use Rattle.std.specs.Map.{lookup}
use Rattle.std.specs.Ordering.{nat_cmp, ordering_then}
use Rattle.std.specs.declared.cmp.Ordering.{Ordering}
use Rattle.indexmap.specs.IndexMap.{insert_entry}
use Rattle.trace_reading.specs.declared.operation.Operation.{Operation}
use Rattle.trace_reading.specs.declared.operation.Operation.TheVariants as said
use Rattle.trace_rules.specs.declared.trace.Transaction.{Transaction}
use Rattle.trace_rules.specs.Trace.{committed_in}
use Rattle.version_ranks.specs.declared.rank.Rank.{Rank}
use Rattle.version_ranks.specs.Ranks.{runs_of}
use Rattle.trace_index.specs.declared.fault.Unclear.TheVariants as unclear
use Rattle.trace_index.specs.declared.said.Said.{Said}
use Rattle.trace_index.specs.Versions.{Blame, Writers, ◌>>=◌, pair_eq, writer_of}
use Rattle.trace_index.specs.Open.{counts_at}

-- the writers of versions by key and number
abbrev pub Numbered : Type 0
Numbered = List ((ℕ × ℕ) × ℕ)

abbrev pub unless_told : Numbered → ℕ → ℕ → ℕ → ℕ → ℕ → Option ℕ → Result Numbered Blame
unless_told numbered txn member key version writer None = Ok (insert_entry pair_eq numbered (key, version) writer)
unless_told numbered txn member key version writer (Some other) =
    if other == writer then Ok numbered else Err (record { txn = txn; member = member; key = key; value = version; what = unclear.VersionTwice })

-- the version of this number is the writer's, as the transaction says
abbrev pub told : Numbered → ℕ → ℕ → ℕ → ℕ → Option ℕ → Result Numbered Blame
told numbered txn member key writer None = Ok numbered
told numbered txn member key writer (Some version) = unless_told numbered txn member key version writer (lookup (pair_eq (key, version)) numbered)

abbrev pub told_of : Numbered → ℕ → ℕ → ℕ → Option ℕ → Option ℕ → Result Numbered Blame
told_of numbered txn member key version None = Ok numbered
told_of numbered txn member key version (Some writer) = told numbered txn member key writer version

abbrev pub read_told : Writers → Numbered → ℕ → ℕ → ℕ → Option ℕ → Option ℕ → Result Numbered Blame
read_told writers numbered txn member key None version = Ok numbered
read_told writers numbered txn member key (Some value) version = told_of numbered txn member key version (writer_of writers key value)

abbrev pub number_step : Writers → Numbered → ℕ → ℕ → Operation → Result Numbered Blame
number_step writers numbered txn member (said.Read key answer version) = read_told writers numbered txn member key answer version
number_step writers numbered txn member (said.ReadList key first end) = Ok numbered
number_step writers numbered txn member (said.Write key value version) = told numbered txn member key txn version
number_step writers numbered txn member (said.Append key value) = Ok numbered

-- of a transaction that counts as committed
abbrev pub number_if : Writers → List Bool → Numbered → Said → Result Numbered Blame
number_if writers flags numbered s = if counts_at flags s.txn then number_step writers numbered s.txn s.member s.operation else Ok numbered

abbrev pub numbers_from : Writers → List Bool → Numbered → List Said → Result Numbered Blame
numbers_from writers flags numbered [] = Ok numbered
numbers_from writers flags numbered (s ∷ ss) = number_if writers flags numbered s >>= λ after. numbers_from writers flags after ss

abbrev pub rank_at : (ℕ × ℕ) × ℕ → Rank
rank_at e = record { key = e.0.0; version = e.0.1; txn = e.1 }

-- where there is one
abbrev pub ranks_at : Option Rank → List Rank
ranks_at None = []
ranks_at (Some rank) = rank ∷ []

abbrev pub is_done : List Transaction → Rank → Bool
is_done transactions r = committed_in (slice_get transactions r.txn)

abbrev pub place_of : Rank → ℕ × ℕ
place_of r = (r.key, r.version)

abbrev pub by_both : ℕ × ℕ → ℕ × ℕ → Ordering
by_both x y = ordering_then (nat_cmp x.0 y.0) (nat_cmp x.1 y.1)

-- all are of committed transactions
abbrev pub AreDone : List Transaction → List Rank → Type 0
AreDone transactions ranks = (place : ℕ) (r : Rank) → slice_get ranks place ≡ Some r → is_done transactions r ≡ true

-- Those of committed transactions, by key and version: where one transaction's stand one behind another, they count as one.
pub record AreRanks (transactions : List Transaction) (numbered : Numbered) (ranks : List Rank) : Type 0 where
  pub sorted : List Rank
  pub same : IsPermutation (map rank_at numbered) sorted
  pub rises : IsSortedByKey place_of by_both sorted
  pub joined : ranks ≡ filter (is_done transactions) (runs_of sorted)
