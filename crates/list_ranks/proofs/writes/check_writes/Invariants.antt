use Rattle.std.proofs.Common.{◌≡◌, ℕ, ◌<◌, Some}
use Rattle.trace_rules.specs.Trace.{Done}
use Rattle.list_orders.specs.Lists.{WriteAt}
use Rattle.list_ranks.specs.Certified.{IsPlaced}
use Rattle.list_ranks.specs.Hints.{longest_of}
use Rattle.list_ranks.proofs.writes.check_writes.Given as goal

abbrev pub invariant-loop-place : goal.invariant-loop-place
invariant-loop-place l = (q : ℕ) → q < l.place → (w k v list : ℕ) → WriteAt l.trace q w k v → Done l.trace w → longest_of l.hints k ≡ Some list → IsPlaced l.trace l.listed l.lists l.hints q w k v list
