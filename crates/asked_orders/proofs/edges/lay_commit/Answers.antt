use Rattle.std.proofs.lemmas.Result.{on_ok_weaker}
use Rattle.asked_orders.proofs.edges.lay_commit.Goals as goal

pub returns-in_ok-lay_commit_from-in-Some-clause-joined : goal.returns-in_ok-lay_commit_from-in-Some-clause-joined
returns-in_ok-lay_commit_from-in-Some-clause-joined c =
    on_ok_weaker c.lay_commit_until.result (λ still operations is joined. still operations is (c.in_ok-lay_commit_from-in-Some.ensures.joined operations is joined)) c.lay_commit_until.ensures.joined
