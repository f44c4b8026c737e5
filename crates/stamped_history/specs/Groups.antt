-- Operations by their transactions.
use Rattle.std.specs.Prelude.{◌≡◌, ℕ, List, Some, Vec, slice_get}
use Rattle.std.specs.Global.{Global}
use Rattle.trace_rules.specs.declared.trace.Operation.{Operation}
use Rattle.trace_items.specs.Items.{operations_of}

-- each group has the operations of the transaction at its place
abbrev pub AreGroups : List (Vec Operation Global) → List Operation → Type 0
AreGroups groups operations = (t : ℕ) (group : Vec Operation Global) → slice_get groups t ≡ Some group → group.items ≡ operations_of t operations
