use Rattle.std.proofs.Common.{◌<◌, ℕ}
use Rattle.isolation_rules.specs.Judged.{Passes}
use Rattle.isolation_rules.proofs.walk.plain_pair.Given as goal

abbrev pub invariant-loop-first : goal.invariant-loop-first
invariant-loop-first l = (i : ℕ) → i < l.first → Passes l.rule l.items i
