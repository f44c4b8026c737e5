use Rattle.std.proofs.Common.{◌≡◌, drop}
use Rattle.system_parts.specs.Buckets as memory
use Rattle.conflict_buckets.proofs.pairs.oldest.Given as goal

abbrev pub invariant-loop-pair : goal.invariant-loop-pair
invariant-loop-pair l = memory.oldest l.out (drop l.pair-index l.others) ≡ memory.oldest l.fn.first l.others
