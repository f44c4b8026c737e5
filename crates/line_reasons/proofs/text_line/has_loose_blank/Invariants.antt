use Rattle.std.proofs.Common.{◌≡◌, true, length}
use Rattle.line_reasons.specs.TextLines.{has_loose_blank}
use Rattle.line_reasons.proofs.text_line.has_loose_blank.Given as goal

abbrev pub invariant-loop-rest : goal.invariant-loop-rest
invariant-loop-rest l = has_loose_blank l.before l.rest ≡ has_loose_blank true l.line

abbrev pub decreases-loop-rest : goal.decreases-loop-rest
decreases-loop-rest l = length l.rest
