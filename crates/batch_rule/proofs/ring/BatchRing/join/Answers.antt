use Rattle.crossbeam_queue.specs.Passes.{view}
use Rattle.batch_rule.proofs.Joins.{joins}
use Rattle.batch_rule.proofs.ring.BatchRing.join.Goals as goal

pub absorb-requires-clause-rule : goal.absorb-requires-clause-rule
absorb-requires-clause-rule c = joins _ (view c.pass.inside.pass) _ (view c.other.inside.pass) c.pass.invariant.1
