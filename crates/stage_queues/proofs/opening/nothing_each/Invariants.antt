use Rattle.std.specs.Prelude.{◌≡◌, replicate}
use Rattle.stage_queues.specs.NodePasses.{nothing}
use Rattle.stage_queues.proofs.opening.nothing_each.Given as goal

abbrev pub invariant-loop-node : goal.invariant-loop-node
invariant-loop-node l = l.nodes.items ≡ replicate l._node nothing
