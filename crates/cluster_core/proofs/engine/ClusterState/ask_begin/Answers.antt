use Rattle.std.proofs.Common.{refl, arith}
use Rattle.cluster_core.proofs.PutBack.{found, missing, nothing_made}
use Rattle.cluster_core.proofs.PartsTouched.{ask_made}
use Rattle.cluster_core.proofs.engine.ClusterState.ask_begin.Goals as goal

pub returns-then-index-len-clause-made : goal.returns-then-index-len-clause-made
returns-then-index-len-clause-made c =
    let none = missing c.self.inside.posts.items c.args.node (grind arith) in
    rw (← c.self.view_is) (rw none (nothing_made _ _))

pub returns-clause-made : goal.returns-clause-made
returns-clause-made c =
    let at = found c.self.inside.posts.items c.args.node c.index-2.result c.index_mut-post.result.now c.index-2.ensures.value (grind arith) c.index_mut-post.ensures.value in
    let there = found c.self.inside.clients.items c.args.session c.index-3.result c.index_mut-client.result.now c.index-3.ensures.value (grind arith) c.index_mut-client.ensures.value in
    rw (← c.self.view_is) (ask_made _ _ c.args.session c.args.node c.index_mut-client.result.now c.ask_begin.new.client c.index_mut-post.result.now c.ask_begin.new.post _ _ _ _ at there (rw (c.index-2.ensures.value, c.index-3.ensures.value) refl) c.ask_begin.ensures.made)
