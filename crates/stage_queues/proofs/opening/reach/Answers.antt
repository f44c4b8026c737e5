use Rattle.std.proofs.Common.{refl, arith}
use Rattle.stage_queues.proofs.OpeningLemmas.{none_reach, all_reach}
use Rattle.stage_queues.proofs.opening.reach.Goals as goal

pub loop-i-init : goal.loop-i-init
loop-i-init c = (refl, c.requires, λ rings is. none_reach _ rings _ _ is)

pub returns-clause-sessions : goal.returns-clause-sessions
returns-clause-sessions c = λ rings is. all_reach c.loop-i.i _ rings _ _ (omega (arith, c.loop-i-test.false, c.len-i-end.ensures)) (c.loop-i.invariant.2 rings is)
