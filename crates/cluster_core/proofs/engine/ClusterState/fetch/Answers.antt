use Rattle.std.proofs.Common.{refl, arith}
use Rattle.cluster_core.proofs.PutBack.{found}
use Rattle.cluster_core.proofs.StoreCallsMade.{fetch_made}
use Rattle.cluster_core.proofs.engine.ClusterState.fetch.Goals as goal

pub returns-clause-made : goal.returns-clause-made
returns-clause-made g c =
    let at = found c.self.inside.clients.items c.args.session c.index.result c.index_mut-client.result.now c.index.ensures.value (grind arith) c.index_mut-client.ensures.value in
    rw (← c.self.view_is) (fetch_made _ _ c.args.session c.args.key _ c.index_mut-client.result.now c.fetch.new.client _ _ _ at (rw c.index.ensures.value refl) c.fetch.ensures.made)

pub returns-clause-asked : goal.returns-clause-asked
returns-clause-asked g c =
    let at = found c.self.inside.clients.items c.args.session c.index.result c.index_mut-client.result.now c.index.ensures.value (grind arith) c.index_mut-client.ensures.value in
    rw (← c.self.view_is) (rw at c.fetch.ensures.asked)
