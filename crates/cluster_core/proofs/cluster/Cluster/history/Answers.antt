use Rattle.isolation_laws.proofs.Holding.SerialCommits.{serial_if_strict}
use Rattle.cluster_core.proofs.cluster.Cluster.history.Goals as goal

pub returns-clause-serial : goal.returns-clause-serial
returns-clause-serial c = rw (← c.self.view_is) (serial_if_strict _ _ c.self.invariant.told.stands.holds)
