-- The operations that count, transaction by transaction.
use Rattle.std.specs.Prelude.{ℕ, ◌+◌, Bool, true, false, ◌&&◌, is_some, if◌then◌else◌, List, [], ◌∷◌, ◌++◌, Option, length, nat_le, slice_range}
use Rattle.trace_reading.specs.declared.operation.Operation.{Operation}
use Rattle.trace_reading.specs.declared.operation.Operation.TheVariants as operation
use Rattle.trace_index.specs.declared.attempts.Attempt.{Attempt}
use Rattle.trace_index.specs.declared.attempts.Fate.{Fate}
use Rattle.trace_index.specs.declared.attempts.Fate.TheVariants as fate
use Rattle.trace_index.specs.declared.said.Said.{Said}

-- A write counts. What an aborted transaction read does not, and of an open one only what it surely read: null stands there for
-- what nobody knows.
abbrev pub read_counts : Fate → Option ℕ → Bool
read_counts fate.Committed answer = true
read_counts fate.Aborted answer = false
read_counts fate.Open answer = is_some answer

-- a list was surely read
abbrev pub list_counts : Fate → Bool
list_counts fate.Committed = true
list_counts fate.Aborted = false
list_counts fate.Open = true

abbrev pub counts : Fate → Operation → Bool
counts f (operation.Read key answer version) = read_counts f answer
counts f (operation.ReadList key first end) = list_counts f
counts f (operation.Write key value version) = true
counts f (operation.Append key value) = true

-- those from a place to before another, where they are there
abbrev pub range_of : ℕ → ℕ → List Operation → List Operation
range_of first end operations = if nat_le first end && nat_le end (length operations) then slice_range operations first end else []

-- the operation at this place of its transaction, where it counts
abbrev pub said_by : Fate → ℕ → ℕ → Operation → List Said
said_by f txn member operation = if counts f operation then record { txn = txn; member = member; operation = operation } ∷ [] else []

-- those from this place of the transaction on
abbrev pub said_each : Fate → ℕ → ℕ → List Operation → List Said
said_each f txn member [] = []
said_each f txn member (x ∷ xs) = said_by f txn member x ++ said_each f txn (member + 1) xs

abbrev pub said_of : List Operation → ℕ → Attempt → List Said
said_of operations txn attempt = said_each attempt.fate txn 0 (range_of attempt.first attempt.end operations)

-- of the transactions from this place on
abbrev pub said_from : List Operation → ℕ → List Attempt → List Said
said_from operations txn [] = []
said_from operations txn (attempt ∷ attempts) = said_of operations txn attempt ++ said_from operations (txn + 1) attempts
