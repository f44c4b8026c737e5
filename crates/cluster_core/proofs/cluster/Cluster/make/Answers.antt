use Rattle.cluster_core.proofs.StaysReached.{kept_in, reached_after, calls_may_be_made}
use Rattle.cluster_core.proofs.RoomThere.{room_is_there}
use Rattle.cluster_core.proofs.cluster.Cluster.make.Goals as goal

pub make-requires-clause-may : goal.make-requires-clause-may
make-requires-clause-may g c = calls_may_be_made c.self.inside.engine c.args.event.now c.self.invariant (rw c.self.view_is c.requires)

pub make-requires-clause-room : goal.make-requires-clause-room
make-requires-clause-room g c = room_is_there c.self.inside.engine c.args.event.now (kept_in c.self.inside.engine c.self.invariant)

pub invariant_of-self : goal.invariant_of-self
invariant_of-self g c =
    reached_after (g.W.Weather.ahead c.args.weather.now) c.self.inside.engine c.make.new.self c.args.event.now c.make.result c.self.invariant (rw c.self.view_is c.requires) c.make.ensures.made c.make.ensures.room c.make.ensures.served
