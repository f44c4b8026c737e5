use Rattle.std.proofs.Common.{◌≤◌}
use Rattle.std.proofs.lemmas.Result.{on_ok_weaker}
use Rattle.rank_orders.proofs.RankLemmas.{rank_still, rank_within}
use Rattle.rank_orders.proofs.edges.lay_rank.Goals as goal

pub returns-in-Some-clause-within : goal.returns-in-Some-clause-within
returns-in-Some-clause-within c = on_ok_weaker c.lay.result (λ may room within. rank_within c.args.nodes.points c.args.nodes.all c.args.edges.now.items c.lay.new.edges.items c.in-Some.edge may room within) c.lay.ensures

pub returns-in-Some-clause-joined : goal.returns-in-Some-clause-joined
returns-in-Some-clause-joined c = on_ok_weaker c.lay.result (λ may level wanted times chain operations is joined.
    rank_still c.args.transactions.now c.args.ranks.now c.args.nodes.starts c.args.nodes.points c.args.edges.now.items c.lay.new.edges.items c.in-Some.edge may c.in-Some.ensures level wanted times chain operations is joined) c.lay.ensures
