use Rattle.std.proofs.Common.{◌≡◌, ◌++◌, take}
use Rattle.history_view.specs.Page.{earlier_text}
use Rattle.history_view.proofs.picture.print_earlier.Given as goal

abbrev pub invariant-loop-bar : goal.invariant-loop-bar
invariant-loop-bar l = l.text ≡ l.fn.text ++ earlier_text l.wide (take l.bar-index l.bars)
