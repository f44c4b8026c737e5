use Rattle.std.proofs.Common.{◌≡◌, drop}
use Rattle.trace_index.specs.Versions.{writers_from}
use Rattle.trace_index.proofs.writers.add_all.Given as goal

abbrev pub invariant-loop-one : goal.invariant-loop-one
invariant-loop-one l = writers_from l.writers (drop l.one-index l.said) ≡ writers_from l.fn.writers l.said
