use Rattle.crossbeam_queue.specs.Passes.{view}
use Rattle.settled_rule.proofs.Steps.{puts, tells_left}
use Rattle.settled_rule.proofs.ring.SettledRing.send.Goals as goal

pub push_as-requires-clause-rule : goal.push_as-requires-clause-rule
push_as-requires-clause-rule g c = (puts _ _ (view c.pass.inside.pass) c.args.batch c.pass.invariant.1, tells_left _ _)
