use Rattle.std.proofs.Common.{◌≡◌, ◌++◌, drop}
use Rattle.trace_items.specs.Items.{history_of}
use Rattle.stamped_history.specs.Order.{points_of, stamps_by}
use Rattle.stamped_history.specs.Told.{telling_by}
use Rattle.stamped_history.proofs.items.items_of.Given as goal

abbrev pub invariant-loop-node : goal.invariant-loop-node
invariant-loop-node l =
    l.items.items ++ history_of (stamps_by l.told.count l.told.ranks.items) (telling_by l.told.seats.items l.told.keys.items l.recording.names) l.trace (points_of l.told.count (drop l.node-index l.told.nodes.items))
    ≡ history_of (stamps_by l.told.count l.told.ranks.items) (telling_by l.told.seats.items l.told.keys.items l.recording.names) l.trace (points_of l.told.count l.told.nodes.items)
