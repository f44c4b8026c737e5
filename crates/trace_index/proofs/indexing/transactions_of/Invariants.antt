use Rattle.std.proofs.Common.{◌≡◌, ◌++◌, drop}
use Rattle.trace_index.specs.Index.{transactions_from}
use Rattle.trace_index.proofs.indexing.transactions_of.Given as goal

abbrev pub invariant-loop-txn : goal.invariant-loop-txn
invariant-loop-txn l = l.transactions.items ++ transactions_from l.flags l.txn (drop l.txn l.attempts) ≡ transactions_from l.flags 0 l.attempts
