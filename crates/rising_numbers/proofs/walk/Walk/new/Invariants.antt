use Rattle.std.proofs.Common.{◌≡◌, ℕ, ◌+◌, ◌<◌, length, get_or}
use Rattle.rising_numbers.proofs.walk.Walk.new.Given as goal

abbrev pub invariant-loop-node : goal.invariant-loop-node
invariant-loop-node l = record {
  many : length l.ahead.items ≡ l.nodes;
  high : (v : ℕ) → v < l.node → get_or l.ahead.items v 0 ≡ get_or l.chains.heads.items v 0 + 2;
}
