use Rattle.std.proofs.Common.{refl, arith}
use Rattle.cluster_core.proofs.PutBack.{found}
use Rattle.cluster_core.proofs.StoreCallsMade.{heal_made}
use Rattle.cluster_core.proofs.engine.ClusterState.heal.Goals as goal

pub returns-clause-made : goal.returns-clause-made
returns-clause-made g c =
    let at = found c.self.inside.clients.items c.args.session c.index.result c.index_mut-client.result.now c.index.ensures.value (grind arith) c.index_mut-client.ensures.value in
    rw (← c.self.view_is) (heal_made _ _ c.args.session _ c.index_mut-client.result.now c.heal.new.client c.heal.new.cells.rows _ _ _ at (rw c.index.ensures.value refl) (c.heal.ensures.made c.self.inside.table.pairs))

pub returns-clause-asked : goal.returns-clause-asked
returns-clause-asked g c =
    let at = found c.self.inside.clients.items c.args.session c.index.result c.index_mut-client.result.now c.index.ensures.value (grind arith) c.index_mut-client.ensures.value in
    rw (← c.self.view_is) (rw at c.heal.ensures.asked)
