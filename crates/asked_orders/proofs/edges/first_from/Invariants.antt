use Rattle.std.proofs.Common.{◌-◌, ◌≤◌, length}
use Rattle.asked_orders.proofs.edges.first_from.Given as goal

abbrev pub invariant-loop-low : goal.invariant-loop-low
invariant-loop-low l = l.high ≤ length l.moments

abbrev pub decreases-loop-low : goal.decreases-loop-low
decreases-loop-low l = l.high - l.low
