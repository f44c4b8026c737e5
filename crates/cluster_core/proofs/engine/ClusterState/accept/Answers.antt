use Rattle.std.proofs.Common.{refl, arith}
use Rattle.cluster_core.proofs.PutBack.{found, missing, nothing_made}
use Rattle.cluster_core.proofs.PartsTouched.{accept_made}
use Rattle.cluster_core.proofs.RoomKept.{reserves_for}
use Rattle.cluster_core.proofs.engine.ClusterState.accept.Goals as goal

pub accept-made-requires : goal.accept-made-requires
accept-made-requires c =
    let at = found c.self.inside.posts.items c.args.node c.index-2.result c.index_mut-post.result.now c.index-2.ensures.value (grind arith) c.index_mut-post.ensures.value in
    let there = found c.self.inside.clients.items c.args.session c.index-3.result c.index_mut-client.result.now c.index-3.ensures.value (grind arith) c.index_mut-client.ensures.value in
    let may = rw (← c.self.view_is) at c.requires in
    may _ _ at there

pub returns-then-index-len-clause-made : goal.returns-then-index-len-clause-made
returns-then-index-len-clause-made c =
    let none = missing c.self.inside.posts.items c.args.node (grind arith) in
    rw (← c.self.view_is) (rw (none, c.max-self-inside.ensures) (nothing_made _ _))

pub returns-clause-made : goal.returns-clause-made
returns-clause-made c =
    let at = found c.self.inside.posts.items c.args.node c.index-2.result c.index_mut-post.result.now c.index-2.ensures.value (grind arith) c.index_mut-post.ensures.value in
    let there = found c.self.inside.clients.items c.args.session c.index-3.result c.index_mut-client.result.now c.index-3.ensures.value (grind arith) c.index_mut-client.ensures.value in
    rw (← c.self.view_is) (accept_made _ _ c.args.node c.args.session c.args.reading c.index_mut-post.result.now c.accept-made.new.post c.index_mut-client.result.now c.accept-made.new.client _ _ _ _ at there (rw (c.index-2.ensures.value, c.index-3.ensures.value, c.seen_after-self-inside.ensures, c.accept-made.ensures.pairs) refl) c.accept-made.ensures.made)

pub returns-then-index-len-clause-room : goal.returns-then-index-len-clause-room
returns-then-index-len-clause-room c =
    let none = missing c.self.inside.posts.items c.args.node (grind arith) in
    rw (← c.self.view_is) (rw none (record { spare = (grind arith, grind arith); place = tt; places = λ txn has. has }))

pub returns-clause-room : goal.returns-clause-room
returns-clause-room c =
    let at = found c.self.inside.posts.items c.args.node c.index-2.result c.index_mut-post.result.now c.index-2.ensures.value (grind arith) c.index_mut-post.ensures.value in
    rw (← c.self.view_is) (rw at (record { spare = reserves_for _ _ _ _ c.accept-made.ensures.spare; place = c.accept-made.ensures.place; places = c.accept-made.ensures.places }))
