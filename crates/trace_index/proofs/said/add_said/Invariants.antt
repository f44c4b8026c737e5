use Rattle.std.proofs.Common.{◌≡◌, ◌++◌, drop}
use Rattle.trace_index.specs.Said.{range_of, said_each, said_of}
use Rattle.trace_index.proofs.said.add_said.Given as goal

abbrev pub invariant-loop-member : goal.invariant-loop-member
invariant-loop-member l =
    l.said.items ++ said_each l.attempt.fate l.txn l.member (drop l.member (range_of l.attempt.first l.attempt.end l.operations)) ≡ l.fn.said.items ++ said_of l.operations l.txn l.attempt
