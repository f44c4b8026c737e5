-- What a cluster keeps of its state and its history, from the opening on.
use Rattle.cause_laws.specs.ShownInvariant.{ExplainedInvariant}
use Rattle.cause_laws.specs.Bounds.{Bounded}
use Rattle.cluster_core.specs.ClusterModel.{ClusterModel}
use Rattle.cluster_core.specs.Room.{AreRoomy, ArePlacesKept}

-- the state is reached with the history: all that the machine keeps holds, the numbers are far from their ends, and all that
-- requests in flight need is kept for them
pub record IsReached (w : ClusterModel) : Type 0 where
  pub told : ExplainedInvariant w.state w.history
  pub bounded : Bounded w.state
  pub roomy : AreRoomy w.state.nodes w.history w.spare
  pub places_kept : ArePlacesKept w.state.nodes w.places
