use Rattle.std.proofs.Common.{◌≡◌, length}
use Rattle.rising_numbers.specs.Walks.{Chained}
use Rattle.rising_numbers.proofs.chains.chained.Given as goal

abbrev pub invariant-loop-place : goal.invariant-loop-place
invariant-loop-place l = record {
  chained : Chained l.edges l.heads.items l.nexts.items l.place;
  heads : length l.heads.items ≡ l.nodes;
  nexts : length l.nexts.items ≡ length l.edges;
}
