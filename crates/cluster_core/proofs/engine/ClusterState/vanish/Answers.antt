use Rattle.std.proofs.Common.{refl, arith}
use Rattle.cluster_core.proofs.PutBack.{found}
use Rattle.cluster_core.proofs.PartsTouched.{client_made}
use Rattle.cluster_core.proofs.engine.ClusterState.vanish.Goals as goal

pub returns-clause-made : goal.returns-clause-made
returns-clause-made c =
    let at = found c.self.inside.clients.items c.args.session c.index.result c.index_mut-client.result.now c.index.ensures.value (grind arith) c.index_mut-client.ensures.value in
    rw (← c.self.view_is) (client_made _ _ c.args.session c.index_mut-client.result.now c.vanish.new.client _ _ _ _ at (rw c.index.ensures.value refl) c.vanish.ensures.made)
