-- The names and lines that are told.
use Rattle.std.specs.Prelude.{ℕ, List, [], Option, None, Some, slice_get, unwrap_or}
use Rattle.trace_index.specs.declared.attempts.Attempt.{Attempt}

-- the name of this number
abbrev pub name_at : List (List ℕ) → ℕ → List ℕ
name_at names number = unwrap_or (slice_get names number) []

abbrev pub line_of : Option Attempt → ℕ
line_of None = 0
line_of (Some attempt) = attempt.line

-- the line of the transaction at this place
abbrev pub line_at : List Attempt → ℕ → ℕ
line_at attempts txn = line_of (slice_get attempts txn)
