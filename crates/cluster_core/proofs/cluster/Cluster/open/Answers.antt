use Rattle.stamp_base.specs.Setups.{numbers_of}
use Rattle.cluster_core.proofs.StaysReached.{reached_first}
use Rattle.cluster_core.proofs.cluster.Cluster.open.Goals as goal

pub invariant_of-result : goal.invariant_of-result
invariant_of-result c = reached_first (numbers_of c.args.setup) c.in_ok-open.field-0 c.args.setup.in_range c.in_ok-open.ensures.state c.in_ok-open.ensures.history
