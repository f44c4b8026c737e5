use Rattle.std.proofs.Common.{◌<◌, length, ap, arith}
use Rattle.stage_queues.specs.Plan.{Plan}
use Rattle.stage_queues.proofs.JoinLemmas.{joins_one}
use Rattle.stage_queues.proofs.queues.Queues.join_nodes.Goals as goal

pub loop-i-preserved : goal.loop-i-preserved
loop-i-preserved c =
    let h = c.loop-i.invariant in
    let nodes = ap (λ (q : Plan). length q.nodes) c.self.view_is in
    let end = c.loop-i-test.true in
    let mine : c.loop-i.i < length c.loop-i.mine = omega (arith, h.mine_fit, c.requires.mine.fit, nodes, c.len-i-end.ensures, c.self.inside.nodes.ok) in
    let theirs : c.loop-i.i < length c.loop-i.theirs = omega (arith, h.theirs_fit, c.requires.theirs.fit, nodes, c.len-i-end.ensures, c.self.inside.nodes.ok) in
    joins_one c.loop-i.i _ _ c.loop-i.mine c.loop-i.theirs c.take-own.result c.take-other.result _ _ _ _ c.join.result h mine theirs c.take-own.ensures.0 c.take-other.ensures.0 c.join.ensures.joined c.join.ensures.tells
