use Rattle.reply_pipeline.proofs.PersistLemmas.{took_one}
use Rattle.reply_pipeline.proofs.persist.turn.Goals as goal

pub returns-in-Some-clause-all : goal.returns-in-Some-clause-all
returns-in-Some-clause-all g c = took_one c.args.desk.now.node c.args.pass.now c.receive.new.pass c.settle.new.pass c.in-Some.batch c.settle.result c.in-Some.ensures.taken c.settle.ensures.put
