use Rattle.si_judge.proofs.Names.{take, HasSharers}
use Rattle.si_judge.proofs.sharers.Sharers.of.Given as goal

abbrev pub invariant-loop-item : goal.invariant-loop-item
invariant-loop-item l = HasSharers l.items l.fn.start (take l.item-index l.items) l.starts
