use Rattle.std.proofs.Common.{take}
use Rattle.outer_reads.specs.Sources.{HasLast}
use Rattle.outer_reads.proofs.values.last_values.Given as goal

abbrev pub invariant-loop-operation : goal.invariant-loop-operation
invariant-loop-operation l = HasLast (take l.operation-index l.operations) l.last.values
