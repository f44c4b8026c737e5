use Rattle.std.proofs.Common.{◌≡◌, ◌++◌, drop}
use Rattle.trace_index.specs.Said.{said_from}
use Rattle.trace_index.proofs.said.said_of_all.Given as goal

abbrev pub invariant-loop-txn : goal.invariant-loop-txn
invariant-loop-txn l = l.said.items ++ said_from l.operations l.txn (drop l.txn l.attempts) ≡ said_from l.operations 0 l.attempts
