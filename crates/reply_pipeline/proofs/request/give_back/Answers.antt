use Rattle.reply_pipeline.proofs.RequestLemmas.{gave_back}
use Rattle.reply_pipeline.proofs.request.give_back.Goals as goal

pub returns : goal.returns
returns g c = gave_back c.args.desk.now.queues.now c.args.desk.now.node c.args.pass.now c.give_batch.new.pass c.args.batch.number c.args.batch.batch.entries c.requires c.give_batch.ensures
