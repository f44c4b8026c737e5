-- Which keys have lists, and which single values: none has both.
use Rattle.std.specs.Prelude.{ℕ, nat_eq, Bool, true, false, if◌then◌else◌, List, [], ◌∷◌, Option, None, Some, Result, Ok, Err}
use Rattle.std.specs.Map.{lookup}
use Rattle.indexmap.specs.IndexMap.{insert_entry}
use Rattle.trace_reading.specs.declared.operation.Operation.{Operation}
use Rattle.trace_reading.specs.declared.operation.Operation.TheVariants as said
use Rattle.trace_index.specs.declared.fault.Unclear.TheVariants as unclear
use Rattle.trace_index.specs.declared.said.Said.{Said}
use Rattle.trace_index.specs.declared.uses.Use.{Use}
use Rattle.trace_index.specs.declared.uses.Use.TheVariants.{OfLists, OfValues}
use Rattle.trace_index.specs.Versions.{Blame, ◌>>=◌}

-- how each key was used, in the order in which they came
abbrev pub Uses : Type 0
Uses = List (ℕ × Use)

abbrev pub is_same : Use → Use → Bool
is_same OfLists OfLists = true
is_same OfLists OfValues = false
is_same OfValues OfLists = false
is_same OfValues OfValues = true

abbrev pub unless_used : Uses → ℕ → ℕ → ℕ → Use → Option Use → Result Uses Blame
unless_used uses txn member key kind None = Ok (insert_entry nat_eq uses key kind)
unless_used uses txn member key kind (Some other) = if is_same kind other then Ok uses else Err (record { txn = txn; member = member; key = key; value = 0; what = unclear.BothWays })

abbrev pub used : Uses → ℕ → ℕ → ℕ → Use → Result Uses Blame
used uses txn member key kind = unless_used uses txn member key kind (lookup (nat_eq key) uses)

-- a read that found nothing is of either
abbrev pub read_used : Uses → ℕ → ℕ → ℕ → Option ℕ → Result Uses Blame
read_used uses txn member key None = Ok uses
read_used uses txn member key (Some value) = used uses txn member key OfValues

abbrev pub use_step : Uses → ℕ → ℕ → Operation → Result Uses Blame
use_step uses txn member (said.Read key answer version) = read_used uses txn member key answer
use_step uses txn member (said.ReadList key first end) = used uses txn member key OfLists
use_step uses txn member (said.Write key value version) = used uses txn member key OfValues
use_step uses txn member (said.Append key value) = used uses txn member key OfLists

abbrev pub uses_from : Uses → List Said → Result Uses Blame
uses_from uses [] = Ok uses
uses_from uses (s ∷ ss) = use_step uses s.txn s.member s.operation >>= λ after. uses_from after ss
