use Rattle.asked_orders.specs.Keeps.{HaveTurns}
use Rattle.asked_orders.proofs.keeps.have_turns.Given as goal

abbrev pub invariant-loop-txn : goal.invariant-loop-txn
invariant-loop-txn l = HaveTurns l.txn l.transactions l.turns
