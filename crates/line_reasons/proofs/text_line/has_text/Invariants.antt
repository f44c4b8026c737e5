use Rattle.std.proofs.Common.{◌≡◌, length}
use Rattle.line_reasons.specs.TextLines.{has_text}
use Rattle.line_reasons.proofs.text_line.has_text.Given as goal

abbrev pub invariant-loop-rest : goal.invariant-loop-rest
invariant-loop-rest l = has_text l.text l.rest ≡ has_text l.text l.bytes

abbrev pub decreases-loop-rest : goal.decreases-loop-rest
decreases-loop-rest l = length l.rest
