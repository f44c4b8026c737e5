use Rattle.std.proofs.Common.{ℕ, ◌<◌}
use Rattle.list_ranks.specs.Certified.{IsStep}
use Rattle.list_ranks.proofs.steps.check_steps.Given as goal

abbrev pub invariant-loop-place : goal.invariant-loop-place
invariant-loop-place l = (i : ℕ) → i < l.place → IsStep l.trace l.hints l.key l.values i
