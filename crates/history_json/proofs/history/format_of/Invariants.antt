use Rattle.std.proofs.Common.{◌≡◌, filter, length}
use Rattle.history_reading.specs.History.{lines_of, says_something}
use Rattle.history_json.proofs.history.format_of.Given as goal

abbrev pub invariant-loop-line : goal.invariant-loop-line
invariant-loop-line l = filter says_something (lines_of l.rest) ≡ filter says_something (lines_of l.bytes)

abbrev pub decreases-loop-line : goal.decreases-loop-line
decreases-loop-line l = length l.rest
