use Rattle.std.proofs.Common.{◌≡◌, ℕ, ◌≤◌, length, get_or}
use Rattle.std.specs.List.{sum}
use Rattle.rising_numbers.specs.Walks.{AreAsMany, Walked}
use Rattle.rising_numbers.proofs.walk.Walk.descend.Given as goal

abbrev pub invariant-path : goal.invariant-path
invariant-path l = record {
  walked : Walked l.edges l.chains.heads.items l.self;
  many : AreAsMany l.edges l.chains l.self;
  each : (v : ℕ) → get_or l.self.ahead.items v 0 ≤ get_or l.initial.self.ahead.items v 0;
  as_many : length l.self.ahead.items ≡ length l.initial.self.ahead.items;
}

abbrev pub decreases-path : goal.decreases-path
decreases-path l = sum l.self.ahead.items
