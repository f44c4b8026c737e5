use Rattle.asked_orders.specs.Keeps.{MomentsRise}
use Rattle.asked_orders.proofs.keeps.moments_rise.Given as goal

abbrev pub invariant-loop-next : goal.invariant-loop-next
invariant-loop-next l = MomentsRise l.points l.numbers l.next l.moments
