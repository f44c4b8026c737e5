use Rattle.std.proofs.Common.{◌≡◌, ◌≤◌, ℕ, None}
use Rattle.isolation_rules.specs.ReadPairs.{written_at}
use Rattle.isolation_rules.proofs.visible.last_write.Given as goal

abbrev pub invariant-loop-place : goal.invariant-loop-place
invariant-loop-place l = (p : ℕ) → l.place ≤ p → written_at l.items l.start l.key p ≡ None
