use Rattle.std.proofs.Common.{length}
use Rattle.std.specs.Prelude.{Option}
use Rattle.history_book.specs.declared.item.Item.{Item}
use Rattle.split_stores.specs.Merged.{Differ}
use Rattle.split_stores.proofs.settling.difference.Given as goal

abbrev pub invariant-loop-left : goal.invariant-loop-left
invariant-loop-left l = (found : Option (Option Item × Option Item)) → Differ l.left l.right found → Differ l.kept l.replayed found

abbrev pub decreases-loop-left : goal.decreases-loop-left
decreases-loop-left l = length l.left
