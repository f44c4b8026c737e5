use Rattle.stamped_history.specs.Order.{HaveNodes}
use Rattle.stamped_history.proofs.placed.have_nodes.Given as goal

abbrev pub invariant-loop-txn : goal.invariant-loop-txn
invariant-loop-txn l = HaveNodes l.transactions l.nodes l.txn
