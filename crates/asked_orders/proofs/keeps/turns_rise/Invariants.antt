use Rattle.asked_orders.specs.Keeps.{TurnsRise}
use Rattle.asked_orders.proofs.keeps.turns_rise.Given as goal

abbrev pub invariant-loop-next : goal.invariant-loop-next
invariant-loop-next l = TurnsRise l.starts l.numbers l.next l.turns
