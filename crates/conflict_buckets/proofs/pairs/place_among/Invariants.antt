use Rattle.std.proofs.Common.{◌≡◌, ◌++◌, take, drop}
use Rattle.system_parts.specs.declared.buckets.Recorded.{Recorded}
use Rattle.system_parts.specs.Buckets as memory
use Rattle.conflict_buckets.proofs.pairs.place_among.Given as goal

abbrev pub invariant-loop-i : goal.invariant-loop-i
invariant-loop-i l = (pair : Recorded) → pair.key ≡ l.key → take l.i l.kept ++ memory.added (drop l.i l.kept) pair ≡ memory.added l.kept pair
