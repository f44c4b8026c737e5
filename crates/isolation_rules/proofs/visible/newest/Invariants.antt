use Rattle.std.proofs.Common.{take}
use Rattle.isolation_rules.specs.Best.{BestOf}
use Rattle.isolation_rules.proofs.visible.newest.Given as goal

abbrev pub invariant-loop-item : goal.invariant-loop-item
invariant-loop-item l = BestOf l.items l.start l.key (take l.item-index l.items) l.best
