use Rattle.crossbeam_queue.specs.Passes.{view}
use Rattle.batch_rule.proofs.Steps.{takes, tells_left}
use Rattle.batch_rule.proofs.ring.BatchRing.receive.Goals as goal

pub pop_as-requires-clause-rule : goal.pop_as-requires-clause-rule
pop_as-requires-clause-rule g c = (takes _ (view c.pass.inside.pass) c.pass.invariant.1, tells_left _ _)
