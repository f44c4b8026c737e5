use Rattle.si_judge.proofs.Names.{take, HasKeys}
use Rattle.si_judge.proofs.sharers.keys_of.Given as goal

abbrev pub invariant-loop-item : goal.invariant-loop-item
invariant-loop-item l = HasKeys (take l.item-index l.items) l.start l.keys.items
