-- What was recorded of a store, as plain lists.
use Rattle.std.specs.Prelude.{ℕ, List, [], ◌∷◌, ◌++◌}
use Rattle.trace_reading.specs.declared.event.Event.{Event}
use Rattle.trace_reading.specs.declared.operation.Operation.{Operation}
use Rattle.trace_reading.specs.Names.{names_with}

-- the names of keys, values and processes by their numbers, the events in their order, the operations of all events one behind
-- another, and the values of all reads of lists one behind another
pub record Recorded : Type 0 where
  pub names : List (List ℕ)
  pub events : List Event
  pub operations : List Operation
  pub listed : List ℕ

abbrev pub nothing_recorded : Recorded
nothing_recorded = record { names = []; events = []; operations = []; listed = [] }

abbrev pub with_name : List ℕ → Recorded → Recorded
with_name name r = record r { names = names_with name r.names }

abbrev pub with_listed : ℕ → Recorded → Recorded
with_listed value r = record r { listed = r.listed ++ value ∷ [] }

abbrev pub with_operation : Operation → Recorded → Recorded
with_operation operation r = record r { operations = r.operations ++ operation ∷ [] }

abbrev pub with_event : Event → Recorded → Recorded
with_event event r = record r { events = r.events ++ event ∷ [] }
