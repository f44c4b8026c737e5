use Rattle.std.proofs.Common.{refl, arith}
use Rattle.cluster_core.proofs.PutBack.{found}
use Rattle.cluster_core.proofs.StoreCallsMade.{step_made}
use Rattle.cluster_core.proofs.engine.ClusterState.step.Goals as goal

pub step-requires : goal.step-requires
step-requires g c =
    let at = found c.self.inside.clients.items c.args.session c.index.result c.index_mut-client.result.now c.index.ensures.value (grind arith) c.index_mut-client.ensures.value in
    let may = rw (← c.self.view_is) at c.requires in
    may _ at

pub returns-clause-made : goal.returns-clause-made
returns-clause-made g c =
    let at = found c.self.inside.clients.items c.args.session c.index.result c.index_mut-client.result.now c.index.ensures.value (grind arith) c.index_mut-client.ensures.value in
    rw (← c.self.view_is) (step_made _ _ c.args.session _ c.index_mut-client.result.now c.step.new.client c.step.new.cells.rows c.step.new.table.pairs _ _ _ at (rw c.index.ensures.value refl) c.step.ensures.made)

pub returns-clause-asked : goal.returns-clause-asked
returns-clause-asked g c =
    let at = found c.self.inside.clients.items c.args.session c.index.result c.index_mut-client.result.now c.index.ensures.value (grind arith) c.index_mut-client.ensures.value in
    rw (← c.self.view_is) (rw at c.step.ensures.asked)
