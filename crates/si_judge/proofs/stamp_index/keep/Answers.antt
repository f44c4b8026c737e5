use Rattle.std.proofs.Common.{arith}
use Rattle.std.proofs.lemmas.Grind.{common_steps}
use Rattle.si_judge.proofs.stamp_index.keep.Goals as goal

pub returns-clause-kept : goal.returns-clause-kept
returns-clause-kept c = λ t has. let at = c.in_ok-insert.ensures.updates.0 t in grind (arith, common_steps, at, has)
