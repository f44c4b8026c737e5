use Rattle.cluster_core.proofs.Names.{refl, arith, numbers_of}
use Rattle.cluster_core.proofs.PutBack.{found, missing, nothing_asked, nothing_made}
use Rattle.cluster_core.proofs.StoreCallsMade.{extend_made}
use Rattle.cluster_core.proofs.engine.ClusterState.extend.Goals as goal

pub returns-then-index-len-clause-made : goal.returns-then-index-len-clause-made
returns-then-index-len-clause-made g c =
    let none = missing c.self.inside.posts.items c.args.node (grind arith) in
    rw (← c.self.view_is) (rw none (nothing_made _ _))

pub returns-then-index-len-clause-asked : goal.returns-then-index-len-clause-asked
returns-then-index-len-clause-asked g c =
    let none = missing c.self.inside.posts.items c.args.node (grind arith) in
    rw (← c.self.view_is) (rw none (nothing_asked _ _))

pub returns-clause-made : goal.returns-clause-made
returns-clause-made g c =
    let at = found c.self.inside.posts.items c.args.node c.index-2.result c.index_mut-post.result.now c.index-2.ensures.value (grind arith) c.index_mut-post.ensures.value in
    rw (← c.self.view_is) (extend_made _ _ c.args.node _ c.index_mut-post.result.now c.extend.new.post c.extend.new.master.state _ _ _ at (rw c.index-2.ensures.value refl) (c.extend.ensures.made (numbers_of c.self.inside.setup) c.self.invariant.rules))

pub returns-clause-asked : goal.returns-clause-asked
returns-clause-asked g c =
    let at = found c.self.inside.posts.items c.args.node c.index-2.result c.index_mut-post.result.now c.index-2.ensures.value (grind arith) c.index_mut-post.ensures.value in
    rw (← c.self.view_is) (rw at c.extend.ensures.asked)
