use Rattle.settled_rule.proofs.Steps.{tells}
use Rattle.settled_rule.proofs.ring.SettledRing.tell.Goals as goal

pub learn_as-requires-clause-rule : goal.learn_as-requires-clause-rule
learn_as-requires-clause-rule c = tells _ _
