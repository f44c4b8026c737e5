use Rattle.std.proofs.Common.{◌≡◌, ◌++◌, take, drop}
use Rattle.system_parts.specs.Buckets as memory
use Rattle.conflict_buckets.proofs.pairs.replace.Given as goal

abbrev pub invariant-loop-i : goal.invariant-loop-i
invariant-loop-i l = take l.i l.kept ++ memory.replaced (drop l.i l.kept) l.pair ≡ memory.replaced l.fn.kept l.pair
