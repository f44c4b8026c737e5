use Rattle.std.proofs.Common.{refl, arith}
use Rattle.cluster_core.proofs.PutBack.{found, missing, nothing_made}
use Rattle.cluster_core.proofs.PartsTouched.{sweep_made}
use Rattle.cluster_core.proofs.engine.ClusterState.sweep_open.Goals as goal

pub returns-then-index-len-clause-made : goal.returns-then-index-len-clause-made
returns-then-index-len-clause-made c =
    let none = missing c.self.inside.posts.items c.args.node (grind arith) in
    rw (← c.self.view_is) (rw none (nothing_made _ _))

pub returns-clause-made : goal.returns-clause-made
returns-clause-made c =
    let at = found c.self.inside.posts.items c.args.node c.index-2.result c.index-post.result.now c.index-2.ensures.value (grind arith) c.index-post.ensures in
    rw (← c.self.view_is) (sweep_made _ _ c.args.node c.index-post.result.now c.sweep_open.new.sweep _ _ _ _ at refl c.sweep_open.ensures.made)
