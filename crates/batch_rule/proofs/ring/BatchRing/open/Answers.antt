use Rattle.batch_rule.proofs.Steps.{begins}
use Rattle.batch_rule.proofs.ring.BatchRing.open.Goals as goal

pub ruled-requires-clause-rule : goal.ruled-requires-clause-rule
ruled-requires-clause-rule c = begins
