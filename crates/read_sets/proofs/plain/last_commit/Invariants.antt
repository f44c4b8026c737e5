use Rattle.std.proofs.Common.{take}
use Rattle.read_sets.specs.Crossings.{IsLastOf}
use Rattle.read_sets.proofs.plain.last_commit.Given as goal

abbrev pub invariant-loop-item : goal.invariant-loop-item
invariant-loop-item l = IsLastOf (take l.item-index l.items) l.start l.last
