use Rattle.std.proofs.Common.{◌≡◌, drop}
use Rattle.std.specs.Option.{option_or}
use Rattle.trace_rules.specs.Trace.{last_of}
use Rattle.trace_report.proofs.wrong.last_of.Given as goal

abbrev pub invariant-loop-operation : goal.invariant-loop-operation
invariant-loop-operation l = option_or (last_of (drop l.operation-index l.operations) l.txn l.key) l.last ≡ last_of l.operations l.txn l.key
