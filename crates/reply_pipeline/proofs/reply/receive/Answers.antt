use Rattle.reply_pipeline.proofs.ReplyLemmas.{may_receive, has_received}
use Rattle.reply_pipeline.proofs.reply.receive.Goals as goal

pub receive-requires-clause-uses : goal.receive-requires-clause-uses
receive-requires-clause-uses g c = may_receive c.args.desk.now.queues.now c.args.desk.now.node c.args.pass.now c.args.pass.now c.settled.result.now c.requires.pass c.settled.ensures

pub returns-clause-pass : goal.returns-clause-pass
returns-clause-pass g c = has_received c.args.desk.now.queues.now c.args.desk.now.node c.args.pass.now c.receive.new.pass c.settled.result.now c.receive.result c.requires.pass c.settled.ensures c.receive.ensures.taken
