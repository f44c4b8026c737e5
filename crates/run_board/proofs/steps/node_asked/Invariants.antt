use Rattle.std.specs.Prelude.{◌≡◌, drop}
use Rattle.run_board.specs.Steps.{node_asked}
use Rattle.run_board.proofs.steps.node_asked.Given as goal

abbrev pub invariant-loop-item : goal.invariant-loop-item
invariant-loop-item l = node_asked (drop l.item-index l.items) ≡ node_asked l.items
