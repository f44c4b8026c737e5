use Rattle.std.proofs.lemmas.Result.{on_ok_weaker}
use Rattle.asked_orders.proofs.edges.lay_start.Goals as goal

pub returns-clause-joined : goal.returns-clause-joined
returns-clause-joined c =
    on_ok_weaker c.lay_start_until.result (λ still operations is joined. still operations is (c.in_ok-lay_start_from.ensures.joined operations is joined)) c.lay_start_until.ensures.joined
