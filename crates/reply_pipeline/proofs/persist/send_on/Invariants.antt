use Rattle.std.specs.Prelude.{◌≡◌}
use Rattle.reply_pipeline.proofs.persist.send_on.Given as goal

abbrev pub invariant-loop : goal.invariant-loop
invariant-loop g l = (l.pass ≡ l.fn.pass) × (l.batch ≡ l.fn.batch)
