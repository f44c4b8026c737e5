use Rattle.std.proofs.Common.{refl}
use Rattle.reply_pipeline.proofs.ReplyLemmas.{placed_one}
use Rattle.reply_pipeline.proofs.reply.place.Goals as goal

pub returns-in_default-clause-pass : goal.returns-in_default-clause-pass
returns-in_default-clause-pass g c = placed_one c.args.desk.now.queues.now c.args.desk.now.node c.args.pass.now c.args.order.now c.offer.new.self c.args.batch c.requires.hand (c.in_default.ensures.welcome.0 refl) c.in_default.ensures.placed
