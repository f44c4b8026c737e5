use Rattle.std.proofs.Common.{◌≡◌, drop}
use Rattle.trace_index.specs.Uses.{uses_from}
use Rattle.trace_index.proofs.uses.add_all.Given as goal

abbrev pub invariant-loop-one : goal.invariant-loop-one
invariant-loop-one l = uses_from l.uses (drop l.one-index l.said) ≡ uses_from l.fn.uses l.said
