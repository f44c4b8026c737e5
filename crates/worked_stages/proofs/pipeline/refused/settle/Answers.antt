use Rattle.std.proofs.Common.{ap}
use Rattle.worked_stages.proofs.ByHandLemmas.{settles_by_hand}
use Rattle.worked_stages.proofs.pipeline.refused.settle.Goals as goal

pub send-requires-clause-uses : goal.send-requires-clause-uses
send-requires-clause-uses g c = settles_by_hand c.args.queues.now 0 c.args.pass.now c.take_batch.new.pass c.settled.result.now c.requires.0 (ap (λ p. p.nodes) c.in-Some.ensures.held) c.settled.ensures
