use Rattle.std.proofs.Common.{◌≡◌, drop}
use Rattle.system_parts.specs.Buckets as memory
use Rattle.conflict_buckets.proofs.buckets.Buckets.keep.Given as goal

abbrev pub invariant-loop-key : goal.invariant-loop-key
invariant-loop-key l = memory.record_pairs l.self (memory.pairs_of (drop l.key-index l.keys) l.commit) ≡ memory.record_pairs l.fn.self (memory.pairs_of l.keys l.commit)
