-- Which transactions may count as committed, where of some nobody knows what became of them.
use Rattle.std.specs.Prelude.{◌≡◌, ℕ, Bool, true, List, Some, slice_get}
use Rattle.trace_rules.specs.declared.trace.Operation.{Operation}
use Rattle.trace_rules.specs.declared.trace.Operation.TheVariants.{Read}
use Rattle.trace_rules.specs.declared.trace.Version.{Version}
use Rattle.trace_index.specs.declared.attempts.Attempt.{Attempt}
use Rattle.trace_index.specs.Open.{is_committed, open_at}

-- those that were committed, and each open one that one of them read from
pub record IsChoice (attempts : List Attempt) (operations : List Operation) (chosen : ℕ → Bool) : Type 0 where
  pub committed : (t : ℕ) (attempt : Attempt) → slice_get attempts t ≡ Some attempt → is_committed attempt.fate ≡ true → chosen t ≡ true
  pub read : (place txn key : ℕ) (found : Version) → slice_get operations place ≡ Some (Read txn key (Some found)) → chosen txn ≡ true → open_at (slice_get attempts found.from) ≡ true → chosen found.from ≡ true
