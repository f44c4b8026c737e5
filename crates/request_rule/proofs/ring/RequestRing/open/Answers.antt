use Rattle.request_rule.proofs.Steps.{begins}
use Rattle.request_rule.proofs.ring.RequestRing.open.Goals as goal

pub ruled-requires-clause-rule : goal.ruled-requires-clause-rule
ruled-requires-clause-rule c = begins
