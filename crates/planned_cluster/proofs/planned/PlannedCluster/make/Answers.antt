use Rattle.planned_cluster.proofs.Making.{plays_on}
use Rattle.planned_cluster.proofs.planned.PlannedCluster.make.Goals as goal

pub returns-clause-played : goal.returns-clause-played
returns-clause-played c = plays_on c.args.event.now c.make-answer.result _ _ _ _ _ _ _ _ c.make-answer.ensures.made c.make-answer.ensures.asked c.clock_made-self.ensures
