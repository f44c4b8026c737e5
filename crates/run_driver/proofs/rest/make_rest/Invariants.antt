use Rattle.std.specs.Prelude.{◌≡◌, false, length}
use Rattle.run_driver.specs.Rounds.{steps_before, AreStill}
use Rattle.run_driver.proofs.rest.make_rest.Given as goal

abbrev pub invariant-loop-place : goal.invariant-loop-place
invariant-loop-place g l = (l.round.actors ≡ l.place) × (l.round.steps ≡ 0) × (length l.shares ≡ length l.fn.shares) × (l.round.made ≡ false → AreStill l.fn.shares l.shares)

abbrev pub invariant-loop-number : goal.invariant-loop-number
invariant-loop-number g l = (l.round.actors ≡ length l.fn.shares) × (l.round.steps ≡ steps_before l.number 0) × (l.round.made ≡ false → AreStill l.fn.shares l.shares)
