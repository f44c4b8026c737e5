use Rattle.std.proofs.Common.{◌≡◌, ◌++◌, drop, map}
use Rattle.trace_items.specs.Items.{item_of}
use Rattle.stamped_history.specs.Order.{stamps_by}
use Rattle.stamped_history.specs.Told.{telling_by}
use Rattle.stamped_history.proofs.items.push_operations.Given as goal

abbrev pub invariant-loop-operation : goal.invariant-loop-operation
invariant-loop-operation l =
    l.items.items ++ map (item_of (stamps_by l.told.count l.told.ranks.items) (telling_by l.told.seats.items l.told.keys.items l.recording.names)) (drop l.operation-index l.operations)
    ≡ l.fn.items.items ++ map (item_of (stamps_by l.told.count l.told.ranks.items) (telling_by l.told.seats.items l.told.keys.items l.recording.names)) l.operations
