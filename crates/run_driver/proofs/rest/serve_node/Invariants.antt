use Rattle.std.specs.Prelude.{◌≡◌, false}
use Rattle.run_driver.specs.Rounds.{steps_before}
use Rattle.run_driver.proofs.rest.serve_node.Given as goal

abbrev pub invariant-loop-number : goal.invariant-loop-number
invariant-loop-number g l = (l.round.steps ≡ steps_before l.node l.number) × (l.round.actors ≡ l.fn.round.actors) × (l.round.made ≡ false → l.fn.round.made ≡ false)
