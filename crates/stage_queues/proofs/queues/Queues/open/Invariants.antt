use Rattle.std.specs.Prelude.{◌≡◌, vec_len}
use Rattle.stage_queues.specs.Halfway.{IsOpening}
use Rattle.stage_queues.proofs.queues.Queues.open.Given as goal

abbrev pub invariant-loop-node : goal.invariant-loop-node
invariant-loop-node l = IsOpening l.sizes l.opening × (vec_len l.opening.queues ≡ l._node)
