use Rattle.std.proofs.Common.{refl, arith}
use Rattle.cluster_core.proofs.PutBack.{found, missing, nothing_asked, nothing_made}
use Rattle.cluster_core.proofs.StoreCallsMade.{put_made}
use Rattle.cluster_core.proofs.engine.ClusterState.put.Goals as goal

pub returns-then-index-len-clause-made : goal.returns-then-index-len-clause-made
returns-then-index-len-clause-made g c =
    let none = missing c.self.inside.posts.items c.args.node (grind arith) in
    rw (← c.self.view_is) (rw none (nothing_made _ _))

pub returns-then-index-len-clause-asked : goal.returns-then-index-len-clause-asked
returns-then-index-len-clause-asked g c =
    let none = missing c.self.inside.posts.items c.args.node (grind arith) in
    rw (← c.self.view_is) (rw none (nothing_asked _ _))

pub returns-clause-made : goal.returns-clause-made
returns-clause-made g c =
    let at = found c.self.inside.posts.items c.args.node c.index-2.result c.index_mut-post.result.now c.index-2.ensures.value (grind arith) c.index_mut-post.ensures.value in
    rw (← c.self.view_is) (put_made _ _ c.args.node c.args.session _ c.index_mut-post.result.now c.put.new.post c.put.new.table.pairs _ _ _ at (rw c.index-2.ensures.value refl) c.put.ensures.made)

pub returns-clause-asked : goal.returns-clause-asked
returns-clause-asked g c =
    let at = found c.self.inside.posts.items c.args.node c.index-2.result c.index_mut-post.result.now c.index-2.ensures.value (grind arith) c.index_mut-post.ensures.value in
    rw (← c.self.view_is) (rw at c.put.ensures.asked)

pub put-requires-clause-room : goal.put-requires-clause-room
put-requires-clause-room g c =
    let at = found c.self.inside.posts.items c.args.node c.index-2.result c.index_mut-post.result.now c.index-2.ensures.value (grind arith) c.index_mut-post.ensures.value in
    (rw (← c.self.view_is, at) at c.requires).0

pub put-requires-clause-place : goal.put-requires-clause-place
put-requires-clause-place g c =
    let at = found c.self.inside.posts.items c.args.node c.index-2.result c.index_mut-post.result.now c.index-2.ensures.value (grind arith) c.index_mut-post.ensures.value in
    (rw (← c.self.view_is, at) at c.requires).1

pub returns-then-index-len-clause-room : goal.returns-then-index-len-clause-room
returns-then-index-len-clause-room g c =
    let none = missing c.self.inside.posts.items c.args.node (grind arith) in
    rw (← c.self.view_is) (rw none (record { spare = refl; places = refl }))

pub returns-clause-room : goal.returns-clause-room
returns-clause-room g c =
    let at = found c.self.inside.posts.items c.args.node c.index-2.result c.index_mut-post.result.now c.index-2.ensures.value (grind arith) c.index_mut-post.ensures.value in
    rw (← c.self.view_is) (rw at (record { spare = c.put.ensures.spare; places = c.put.ensures.places }))

pub returns-then-index-len-clause-served : goal.returns-then-index-len-clause-served
returns-then-index-len-clause-served g c =
    let none = missing c.self.inside.posts.items c.args.node (grind arith) in
    rw (← c.self.view_is) (rw none tt)

pub returns-clause-served : goal.returns-clause-served
returns-clause-served g c =
    let at = found c.self.inside.posts.items c.args.node c.index-2.result c.index_mut-post.result.now c.index-2.ensures.value (grind arith) c.index_mut-post.ensures.value in
    rw (← c.self.view_is) (rw at c.put.ensures.served)
