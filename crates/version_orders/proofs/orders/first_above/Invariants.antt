use Rattle.std.proofs.Common.{◌-◌, ◌≤◌, length}
use Rattle.version_orders.proofs.orders.first_above.Given as goal

abbrev pub invariant-loop-low : goal.invariant-loop-low
invariant-loop-low l = l.high ≤ length l.order

abbrev pub decreases-loop-low : goal.decreases-loop-low
decreases-loop-low l = l.high - l.low
