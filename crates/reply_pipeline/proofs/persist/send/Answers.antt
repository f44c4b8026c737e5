use Rattle.std.proofs.Common.{[], ◌∷◌}
use Rattle.reply_pipeline.proofs.PersistLemmas.{may_settle, has_sent, carries_put}
use Rattle.reply_pipeline.proofs.persist.send.Goals as goal

pub send-requires-clause-uses : goal.send-requires-clause-uses
send-requires-clause-uses g c = may_settle c.args.desk.now.queues.now c.args.desk.now.node c.args.pass.now (c.args.batch ∷ []) c.settled.result.now c.requires.hand c.settled.ensures

pub returns-clause-pass : goal.returns-clause-pass
returns-clause-pass g c = has_sent c.args.desk.now.queues.now c.args.desk.now.node c.args.pass.now c.send.new.pass c.settled.result.now c.send.result c.args.batch c.requires.hand c.settled.ensures c.send.ensures.put

pub returns-clause-put : goal.returns-clause-put
returns-clause-put g c = carries_put c.args.desk.now.queues.now c.args.desk.now.node c.args.pass.now c.send.new.pass c.settled.result.now c.send.result c.args.batch c.requires.hand c.settled.ensures c.send.ensures.put
