use Rattle.std.specs.Prelude.{◌≡◌, ◌≤◌}
use Rattle.run_driver.proofs.round.carry_on.Given as goal

abbrev pub invariant-loop : goal.invariant-loop
invariant-loop g l = (l.mine.actor ≡ l.fn.mine.actor) × (l.fn.mine.amount ≤ l.mine.amount)
