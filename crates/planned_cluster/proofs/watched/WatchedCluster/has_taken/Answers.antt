use Rattle.std.proofs.Common.{◌<◌, ◌∙◌, ap, arith}
use Rattle.command_semantics.specs.Master.{has_take}
use Rattle.cluster_core.specs.ClusterModel.{ClusterModel}
use Rattle.planned_cluster.proofs.TakeFlags.{told_flag, flags_long}
use Rattle.planned_cluster.proofs.watched.WatchedCluster.has_taken.Goals as goal

pub index-requires-2 : goal.index-requires-2
index-requires-2 c =
    let range : c.index.result < 8 = c.index.ensures.range in
    omega (arith, range, flags_long c.self.inside.taken.items c.self.inside.cluster.history c.self.invariant.1, c.self.inside.taken.ok)

pub returns : goal.returns
returns c =
    let range : c.index.result < 8 = c.index.ensures.range in
    told_flag c.self.inside.taken.items c.self.inside.cluster.history c.args.node c.index.result c.index-2.result.now c.self.invariant.1 c.index.ensures.value (omega (arith, range, c.index.ensures.value)) c.index-2.ensures
    ∙ ap (λ (w : ClusterModel). has_take w.history c.args.node) c.self.view_is
