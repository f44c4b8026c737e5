use Rattle.std.proofs.Common.{arith}
use Rattle.planned_cluster.proofs.TakeFlags.{flags_long}
use Rattle.planned_cluster.proofs.watched.WatchedCluster.make.Goals as goal

pub note_takes-requires : goal.note_takes-requires
note_takes-requires g c = omega (arith, flags_long c.self.inside.taken.items c.self.inside.cluster.history c.self.invariant.1, c.self.inside.taken.ok)
