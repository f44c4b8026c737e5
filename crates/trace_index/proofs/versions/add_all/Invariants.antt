use Rattle.std.proofs.Common.{◌≡◌, drop}
use Rattle.trace_index.specs.Versions.{operations_from}
use Rattle.trace_index.proofs.versions.add_all.Given as goal

abbrev pub invariant-loop-one : goal.invariant-loop-one
invariant-loop-one l = operations_from l.writers l.listed l.operations.items (drop l.one-index l.said) ≡ operations_from l.writers l.listed l.fn.operations.items l.said
