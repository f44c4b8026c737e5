use Rattle.std.proofs.Common.{take}
use Rattle.read_sets.specs.Index.{HasPlaced}
use Rattle.read_sets.proofs.index.placed_commits.Given as goal

abbrev pub invariant-loop-item : goal.invariant-loop-item
invariant-loop-item l = HasPlaced (take l.item-index l.items) l.placed
