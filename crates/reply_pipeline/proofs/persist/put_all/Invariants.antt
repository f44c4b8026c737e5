use Rattle.std.specs.Prelude.{◌≡◌}
use Rattle.stamp_base.specs.declared.stage.Stage.TheVariants.{Persist}
use Rattle.reply_pipeline.specs.Telling.{counted}
use Rattle.reply_pipeline.proofs.persist.put_all.Given as goal

abbrev pub invariant-loop-entry : goal.invariant-loop-entry
invariant-loop-entry g l = l.told ≡ counted Persist l.batch.number l.entry-index
