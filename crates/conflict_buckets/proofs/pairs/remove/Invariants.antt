use Rattle.std.proofs.Common.{◌≡◌, ◌++◌, take, drop, length}
use Rattle.system_parts.specs.Buckets as memory
use Rattle.conflict_buckets.proofs.pairs.remove.Given as goal

abbrev pub invariant-loop-i : goal.invariant-loop-i
invariant-loop-i l = record {
  same : length l.kept ≡ length l.fn.kept;
  made : take l.i l.kept ++ memory.without (drop l.i l.kept) l.key ≡ memory.without l.fn.kept l.key;
}
