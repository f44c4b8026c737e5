use Rattle.std.proofs.Common.{take}
use Rattle.read_sets.specs.Index.{IsIndexBut}
use Rattle.read_sets.proofs.index.Index.new.Given as goal

abbrev pub invariant-loop-item : goal.invariant-loop-item
invariant-loop-item l = IsIndexBut l.items (take l.item-index l.items) l.index
