use Rattle.std.proofs.Common.{◌+◌, ◌<◌, ℕ, List, length, get_or}
use Rattle.trace_rules.specs.declared.trace.Operation.{Operation}
use Rattle.trace_rules.specs.Trace.{Done}
use Rattle.outer_reads.specs.Sources.{trace_of}
use Rattle.stamp_check.proofs.own_rise.Given as goal

abbrev pub invariant-loop-txn : goal.invariant-loop-txn
invariant-loop-txn l = (t : ℕ) (operations : List Operation) → t < l.txn → Done (trace_of l.transactions operations) t → get_or l.numbers t 0 < get_or l.numbers (length l.transactions + t) 0
