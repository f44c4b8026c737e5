use Rattle.std.proofs.Common.{◌≡◌, length}
use Rattle.history_reading.specs.ReadWords.{after_text}
use Rattle.line_reasons.proofs.text_line.after.Given as goal

abbrev pub invariant-loop-left : goal.invariant-loop-left
invariant-loop-left l = after_text l.left l.rest ≡ after_text l.text l.bytes

abbrev pub decreases-loop-left : goal.decreases-loop-left
decreases-loop-left l = length l.left
