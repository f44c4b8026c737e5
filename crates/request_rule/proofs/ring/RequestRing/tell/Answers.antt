use Rattle.request_rule.proofs.Steps.{tells}
use Rattle.request_rule.proofs.ring.RequestRing.tell.Goals as goal

pub learn_as-requires-clause-rule : goal.learn_as-requires-clause-rule
learn_as-requires-clause-rule c = tells _ _
