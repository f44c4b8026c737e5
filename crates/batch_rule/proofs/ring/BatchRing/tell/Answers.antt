use Rattle.batch_rule.proofs.Steps.{tells}
use Rattle.batch_rule.proofs.ring.BatchRing.tell.Goals as goal

pub learn_as-requires-clause-rule : goal.learn_as-requires-clause-rule
learn_as-requires-clause-rule c = tells _ _
