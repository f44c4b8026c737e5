use Rattle.std.proofs.Common.{◌≡◌, take}
use Rattle.history_text.specs.Summary.{summary_of}
use Rattle.history_text.proofs.summary.Summary.of.Given as goal

abbrev pub invariant-loop-item : goal.invariant-loop-item
invariant-loop-item l = l.summary ≡ summary_of (take l.item-index l.items)
