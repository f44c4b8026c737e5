use Rattle.std.proofs.Common.{◌≡◌, ℕ, ◌<◌, [], length, get_or}
use Rattle.rising_numbers.specs.Walks.{AreAsMany, Walked}
use Rattle.rising_numbers.proofs.numbered.Given as goal

abbrev pub invariant-loop-root : goal.invariant-loop-root
invariant-loop-root l = record {
  walked : Walked l.edges l.chains.heads.items l.walk;
  path : l.walk.path.items ≡ [];
  many : AreAsMany l.edges l.chains l.walk;
  as_many : length l.walk.ahead.items ≡ l.nodes;
  done : (v : ℕ) → v < l.root → get_or l.walk.ahead.items v 0 ≡ 0;
}
