use Rattle.std.proofs.Common.{◌≡◌, ◌-◌, length}
use Rattle.std.specs.Prelude.{slice_get}
use Rattle.history_reading.specs.History.{lines_of}
use Rattle.line_reasons.proofs.reason.line_at.Given as goal

abbrev pub invariant-loop-line : goal.invariant-loop-line
invariant-loop-line l = slice_get (lines_of l.rest) l.before ≡ slice_get (lines_of l.bytes) (l.number - 1)

abbrev pub decreases-loop-line : goal.decreases-loop-line
decreases-loop-line l = length l.rest
