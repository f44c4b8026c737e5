use Rattle.std.proofs.Common.{ℕ, ◌<◌}
use Rattle.trace_rules.specs.Trace.{Done}
use Rattle.list_orders.specs.Lists.{WriteAt}
use Rattle.list_ranks.proofs.dirty.has_done.Given as goal

abbrev pub invariant-loop-place : goal.invariant-loop-place
invariant-loop-place l = (q : ℕ) → q < l.place → (w : ℕ) → WriteAt l.trace q w l.key l.value → Done l.trace w → ⊥
