use Rattle.cluster_core.proofs.AtRest.{stores_at_rest}
use Rattle.cluster_core.proofs.cluster.Cluster.into_stores.Goals as goal

pub returns-clause-at_rest : goal.returns-clause-at_rest
returns-clause-at_rest c = rw (← c.self.view_is) (stores_at_rest _ _ c.self.invariant.told.stands)
