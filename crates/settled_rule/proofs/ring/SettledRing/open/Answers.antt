use Rattle.settled_rule.proofs.Steps.{begins}
use Rattle.settled_rule.proofs.ring.SettledRing.open.Goals as goal

pub ruled-requires-clause-rule : goal.ruled-requires-clause-rule
ruled-requires-clause-rule c = begins
