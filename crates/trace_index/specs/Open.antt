-- Which transactions count as committed: those that were, and each open one that such a one read from.
use Rattle.std.specs.Prelude.{ℕ, zero, suc, Bool, true, false, ◌&&◌, if◌then◌else◌, List, Option, None, Some, fold, map, nat_lt, length, slice_get, slice_set, unwrap_or}
use Rattle.trace_rules.specs.declared.trace.Operation.{Operation}
use Rattle.trace_rules.specs.declared.trace.Operation.TheVariants as operation
use Rattle.trace_rules.specs.declared.trace.Version.{Version}
use Rattle.trace_index.specs.declared.attempts.Attempt.{Attempt}
use Rattle.trace_index.specs.declared.attempts.Fate.{Fate}
use Rattle.trace_index.specs.declared.attempts.Fate.TheVariants as fate

abbrev pub is_committed : Fate → Bool
is_committed fate.Committed = true
is_committed fate.Aborted = false
is_committed fate.Open = false

abbrev pub is_open : Fate → Bool
is_open fate.Committed = false
is_open fate.Aborted = false
is_open fate.Open = true

abbrev pub open_at : Option Attempt → Bool
open_at None = false
open_at (Some attempt) = is_open attempt.fate

-- by place: whether the transaction counts
abbrev pub counts_at : List Bool → ℕ → Bool
counts_at flags txn = unwrap_or (slice_get flags txn) false

abbrev pub with_flag : List Bool → ℕ → List Bool
with_flag flags txn = if nat_lt txn (length flags) then slice_set flags txn true else flags

-- a transaction found this
abbrev pub found_settles : List Attempt → List Bool → ℕ → Option Version → List Bool
found_settles attempts flags txn None = flags
found_settles attempts flags txn (Some found) = if counts_at flags txn && open_at (slice_get attempts found.from) then with_flag flags found.from else flags

-- where it counts, so does an open writer of what it found
abbrev pub settles : List Attempt → List Bool → Operation → List Bool
settles attempts flags (operation.Read txn key answer) = found_settles attempts flags txn answer
settles attempts flags (operation.Write txn key value) = flags

abbrev pub round : List Attempt → List Operation → List Bool → List Bool
round attempts operations flags = fold (settles attempts) flags operations

unfoldable pub rounds : List Attempt → List Operation → ℕ → List Bool → List Bool
rounds attempts operations zero flags = flags
rounds attempts operations (suc n) flags = rounds attempts operations n (round attempts operations flags)

-- at first those that were committed, and then as many rounds as there are transactions: each but the last adds one at least
abbrev pub flags_of : List Attempt → List Operation → List Bool
flags_of attempts operations = rounds attempts operations (length attempts) (map (λ attempt. is_committed attempt.fate) attempts)
