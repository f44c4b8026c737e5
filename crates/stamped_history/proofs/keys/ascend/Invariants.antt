use Rattle.stamped_history.specs.Told.{Ascends}
use Rattle.stamped_history.proofs.keys.ascend.Given as goal

abbrev pub invariant-loop-next : goal.invariant-loop-next
invariant-loop-next l = Ascends l.keys l.next
