use Rattle.stage_queues.proofs.JoinLemmas.{AreJoinedBelow}
use Rattle.stage_queues.proofs.queues.Queues.join_nodes.Given as goal

abbrev pub invariant-loop-i : goal.invariant-loop-i
invariant-loop-i l = AreJoinedBelow l.i l.fn.mine l.fn.theirs l.mine l.theirs
