use Rattle.std.specs.Prelude.{◌≡◌}
use Rattle.run_driver.proofs.round.aim_at_master.Given as goal

abbrev pub invariant-loop-number : goal.invariant-loop-number
invariant-loop-number g l = (l.mine.actor ≡ l.fn.mine.actor) × (l.mine.amount ≡ l.fn.mine.amount)
