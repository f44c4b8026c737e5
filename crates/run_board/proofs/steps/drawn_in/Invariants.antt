use Rattle.std.specs.Prelude.{◌≡◌, drop}
use Rattle.run_board.specs.Steps.{drawn_in}
use Rattle.run_board.proofs.steps.drawn_in.Given as goal

abbrev pub invariant-loop-item : goal.invariant-loop-item
invariant-loop-item l = drawn_in (drop l.item-index l.items) ≡ drawn_in l.items
