use Rattle.std.proofs.Common.{◌≡◌, drop}
use Rattle.system_parts.specs.Buckets as memory
use Rattle.conflict_buckets.proofs.buckets.Buckets.check.Given as goal

abbrev pub invariant-loop-key : goal.invariant-loop-key
invariant-loop-key l = memory.verdict l.self l.start (drop l.key-index l.keys) ≡ memory.verdict l.self l.start l.keys
