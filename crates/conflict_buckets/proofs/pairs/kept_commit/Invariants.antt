use Rattle.std.proofs.Common.{◌≡◌, drop}
use Rattle.system_parts.specs.Buckets as memory
use Rattle.conflict_buckets.proofs.pairs.kept_commit.Given as goal

abbrev pub invariant-loop-pair : goal.invariant-loop-pair
invariant-loop-pair l = memory.kept_commit (drop l.pair-index l.kept) l.key ≡ memory.kept_commit l.kept l.key
