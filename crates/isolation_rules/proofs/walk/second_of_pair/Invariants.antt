use Rattle.std.proofs.Common.{◌<◌, ℕ}
use Rattle.isolation_rules.specs.Judged.{Breaks}
use Rattle.isolation_rules.proofs.walk.second_of_pair.Given as goal

abbrev pub invariant-loop-second : goal.invariant-loop-second
invariant-loop-second l = (q : ℕ) → q < l.second → Breaks l.rule l.items l.first q → ⊥
