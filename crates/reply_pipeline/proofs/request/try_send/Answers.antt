use Rattle.reply_pipeline.proofs.RequestLemmas.{may_send, has_sent, has_kept}
use Rattle.reply_pipeline.proofs.request.try_send.Goals as goal

pub send-requires-clause-sends : goal.send-requires-clause-sends
send-requires-clause-sends g c = may_send c.args.desk.now.queues.now c.args.desk.now.node c.args.pass.now c.batches.result.now c.args.batch.number 1 c.args.batch.batch.entries c.requires c.batches.ensures

pub returns-clause-sent : goal.returns-clause-sent
returns-clause-sent g c = has_sent c.args.desk.now.queues.now c.args.desk.now.node c.args.pass.now c.send.new.pass c.batches.result.now c.send.result c.args.batch c.requires c.batches.ensures c.send.ensures.put

pub returns-clause-left : goal.returns-clause-left
returns-clause-left g c = has_kept c.args.desk.now.queues.now c.args.desk.now.node c.args.pass.now c.send.new.pass c.batches.result.now c.send.result c.args.batch c.requires c.batches.ensures c.send.ensures.put
