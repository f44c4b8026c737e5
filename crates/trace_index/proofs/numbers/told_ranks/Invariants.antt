use Rattle.std.proofs.Common.{◌≡◌, ◌++◌, drop, map}
use Rattle.trace_index.specs.Numbers.{rank_at}
use Rattle.trace_index.proofs.numbers.told_ranks.Given as goal

abbrev pub invariant-loop-place : goal.invariant-loop-place
invariant-loop-place l = l.ranks.items ++ map rank_at (drop l.place l.numbered) ≡ map rank_at l.numbered
