use Rattle.std.specs.Prelude.{◌≡◌}
use Rattle.stamp_base.specs.declared.stage.Stage.TheVariants.{Reply}
use Rattle.reply_pipeline.specs.Telling.{counted}
use Rattle.reply_pipeline.proofs.reply.answer_all_of.Given as goal

abbrev pub invariant-loop-entry : goal.invariant-loop-entry
invariant-loop-entry g l = l.told ≡ counted Reply l.batch.number l.entry-index
