use Rattle.std.proofs.Common.{◌≡◌, length}
use Rattle.trace_report.specs.Names.{meet_from}
use Rattle.trace_report.proofs.name.meet_from.Given as goal

abbrev pub invariant-loop-left : goal.invariant-loop-left
invariant-loop-left l = meet_from l.first l.left ≡ meet_from l.first l.steps

abbrev pub decreases-loop-left : goal.decreases-loop-left
decreases-loop-left l = length l.left
