use Rattle.crossbeam_queue.specs.Passes.{view}
use Rattle.request_rule.proofs.Passes.{joins}
use Rattle.request_rule.proofs.ring.RequestRing.join.Goals as goal

pub absorb-requires-clause-rule : goal.absorb-requires-clause-rule
absorb-requires-clause-rule c = joins _ (view c.pass.inside.pass) _ (view c.other.inside.pass)
