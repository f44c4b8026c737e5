use Rattle.std.proofs.Common.{refl, arith}
use Rattle.cluster_core.proofs.PutBack.{found, missing, nothing_made}
use Rattle.cluster_core.proofs.PartsTouched.{request_made}
use Rattle.cluster_core.proofs.engine.ClusterState.answer.Goals as goal

pub answer-requires-clause-waits : goal.answer-requires-clause-waits
answer-requires-clause-waits c =
    let at = found c.self.inside.posts.items c.args.node c.index-2.result c.index_mut-post.result.now c.index-2.ensures.value (grind arith) c.index_mut-post.ensures.value in
    let there = found c.self.inside.clients.items c.args.session c.index-3.result c.index_mut-client.result.now c.index-3.ensures.value (grind arith) c.index_mut-client.ensures.value in
    let may = rw (← c.self.view_is) at c.requires.may in
    may _ _ at there

pub returns-then-index-len-clause-made : goal.returns-then-index-len-clause-made
returns-then-index-len-clause-made c =
    let none = missing c.self.inside.posts.items c.args.node (grind arith) in
    rw (← c.self.view_is) (rw none (nothing_made _ _))

pub returns-clause-made : goal.returns-clause-made
returns-clause-made c =
    let at = found c.self.inside.posts.items c.args.node c.index-2.result c.index_mut-post.result.now c.index-2.ensures.value (grind arith) c.index_mut-post.ensures.value in
    let there = found c.self.inside.clients.items c.args.session c.index-3.result c.index_mut-client.result.now c.index-3.ensures.value (grind arith) c.index_mut-client.ensures.value in
    rw (← c.self.view_is) (request_made _ _ c.args.node c.args.session c.index_mut-post.result.now c.answer.new.post c.index_mut-client.result.now c.answer.new.client _ _ _ _ at there (rw (c.index-2.ensures.value, c.index-3.ensures.value) refl) c.answer.ensures.made)

pub answer-requires-clause-room : goal.answer-requires-clause-room
answer-requires-clause-room c =
    let at = found c.self.inside.posts.items c.args.node c.index-2.result c.index_mut-post.result.now c.index-2.ensures.value (grind arith) c.index_mut-post.ensures.value in
    rw (← c.self.view_is, at) at c.requires.room

pub returns-then-index-len-clause-room : goal.returns-then-index-len-clause-room
returns-then-index-len-clause-room c =
    let none = missing c.self.inside.posts.items c.args.node (grind arith) in
    rw (← c.self.view_is) (rw none (record { spare = refl; places = refl }))

pub returns-clause-room : goal.returns-clause-room
returns-clause-room c =
    let at = found c.self.inside.posts.items c.args.node c.index-2.result c.index_mut-post.result.now c.index-2.ensures.value (grind arith) c.index_mut-post.ensures.value in
    rw (← c.self.view_is) (rw at (record { spare = c.answer.ensures.spare; places = refl }))

pub returns-then-index-len-clause-served : goal.returns-then-index-len-clause-served
returns-then-index-len-clause-served c =
    let none = missing c.self.inside.posts.items c.args.node (grind arith) in
    rw (← c.self.view_is) (rw none tt)

pub returns-clause-served : goal.returns-clause-served
returns-clause-served c =
    let at = found c.self.inside.posts.items c.args.node c.index-2.result c.index_mut-post.result.now c.index-2.ensures.value (grind arith) c.index_mut-post.ensures.value in
    rw (← c.self.view_is) (rw at c.answer.ensures.served)
