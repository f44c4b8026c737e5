use Rattle.reply_pipeline.specs.Requesting.{GoesOnWith}
use Rattle.reply_pipeline.proofs.request.serve.Given as goal

abbrev pub invariant-loop-number : goal.invariant-loop-number
invariant-loop-number g l = GoesOnWith l.desk.queues.now l.desk.node l.number l.left l.pass
