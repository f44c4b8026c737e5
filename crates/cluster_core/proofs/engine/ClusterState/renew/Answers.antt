use Rattle.cluster_core.proofs.Names.{refl, arith, numbers_of}
use Rattle.cluster_core.proofs.PutBack.{found, missing, nothing_asked, nothing_made}
use Rattle.cluster_core.proofs.StoreCallsMade.{renew_made}
use Rattle.cluster_core.proofs.engine.ClusterState.renew.Goals as goal

pub returns-then-index-len-clause-made : goal.returns-then-index-len-clause-made
returns-then-index-len-clause-made g c =
    let none = missing c.self.inside.posts.items c.args.node (grind arith) in
    rw (← c.self.view_is) (rw (none, c.max-self-inside.ensures) (nothing_made _ _))

pub returns-then-index-len-clause-asked : goal.returns-then-index-len-clause-asked
returns-then-index-len-clause-asked g c =
    let none = missing c.self.inside.posts.items c.args.node (grind arith) in
    rw (← c.self.view_is) (rw none (nothing_asked _ _))

pub returns-clause-made : goal.returns-clause-made
returns-clause-made g c =
    let at = found c.self.inside.posts.items c.args.node c.index-2.result c.index_mut-post.result.now c.index-2.ensures.value (grind arith) c.index_mut-post.ensures.value in
    rw (← c.self.view_is) (renew_made _ _ c.args.node c.args.reading _ c.index_mut-post.result.now c.renew-made.new.post c.renew-made.new.master.state _ _ _ at (rw (c.index-2.ensures.value, c.seen_after-self-inside.ensures) refl) (c.renew-made.ensures.made (numbers_of c.self.inside.setup) c.self.invariant.rules))

pub returns-clause-asked : goal.returns-clause-asked
returns-clause-asked g c =
    let at = found c.self.inside.posts.items c.args.node c.index-2.result c.index_mut-post.result.now c.index-2.ensures.value (grind arith) c.index_mut-post.ensures.value in
    rw (← c.self.view_is) (rw at c.renew-made.ensures.asked)
