use Rattle.cluster_core.proofs.Names.{◌≡◌, length, refl, arith, with_items_is}
use Rattle.cluster_core.proofs.PutBack.{found, missing, nothing_made}
use Rattle.cluster_core.proofs.PartsTouched.{clients_made}
use Rattle.cluster_core.proofs.engine.ClusterState.crash.Goals as goal

pub crash-requires : goal.crash-requires
crash-requires c =
    let at = found c.self.inside.posts.items c.args.node c.index-2.result c.index_mut-post.result.now c.index-2.ensures.value (grind arith) c.index_mut-post.ensures.value in
    let may = rw (← c.self.view_is) at c.requires in
    rw c.deref_mut.ensures.value (λ session client there. may session _ client at there)

pub returns-then-index-len-clause-made : goal.returns-then-index-len-clause-made
returns-then-index-len-clause-made c =
    let none = missing c.self.inside.posts.items c.args.node (grind arith) in
    rw (← c.self.view_is) (rw none (nothing_made _ _))

pub returns-clause-made : goal.returns-clause-made
returns-clause-made c =
    let at = found c.self.inside.posts.items c.args.node c.index-2.result c.index_mut-post.result.now c.index-2.ensures.value (grind arith) c.index_mut-post.ensures.value in
    let kept : length c.crash.new.clients ≡ c.self.inside.clients.len = grind arith in
    let made = rw c.deref_mut.ensures.value at c.crash.ensures.made in
    rw (← c.self.view_is) (clients_made _ _ c.args.node c.index_mut-post.result.now c.crash.new.post c.crash.new.clients _ _ _ _ at (rw (c.index-2.ensures.value, with_items_is c.self.inside.clients c.crash.new.clients kept) refl) made)
