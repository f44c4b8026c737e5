use Rattle.asked_orders.specs.Keeps.{AreTimed}
use Rattle.asked_orders.proofs.keeps.are_timed.Given as goal

abbrev pub invariant-loop-txn : goal.invariant-loop-txn
invariant-loop-txn l = AreTimed l.level l.times l.txn l.transactions l.nodes.starts l.nodes.points l.moments l.numbers
