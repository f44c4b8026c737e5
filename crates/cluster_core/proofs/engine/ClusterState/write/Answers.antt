use Rattle.std.proofs.Common.{refl, arith}
use Rattle.cluster_core.proofs.PutBack.{found}
use Rattle.cluster_core.proofs.StoreCallsMade.{write_made}
use Rattle.cluster_core.proofs.engine.ClusterState.write.Goals as goal

pub write-requires : goal.write-requires
write-requires g c =
    let at = found c.self.inside.clients.items c.args.session c.index.result c.index_mut-client.result.now c.index.ensures.value (grind arith) c.index_mut-client.ensures.value in
    let may = rw (← c.self.view_is) at c.requires in
    may _ at

pub returns-clause-made : goal.returns-clause-made
returns-clause-made g c =
    let at = found c.self.inside.clients.items c.args.session c.index.result c.index_mut-client.result.now c.index.ensures.value (grind arith) c.index_mut-client.ensures.value in
    rw (← c.self.view_is) (write_made _ _ c.args.session c.args.key c.args.value _ c.index_mut-client.result.now c.write.new.client c.write.new.cells.rows _ _ _ at (rw c.index.ensures.value refl) c.write.ensures.made)

pub returns-clause-asked : goal.returns-clause-asked
returns-clause-asked g c =
    let at = found c.self.inside.clients.items c.args.session c.index.result c.index_mut-client.result.now c.index.ensures.value (grind arith) c.index_mut-client.ensures.value in
    rw (← c.self.view_is) (rw at c.write.ensures.asked)
