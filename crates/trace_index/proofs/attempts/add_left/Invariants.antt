use Rattle.std.proofs.Common.{◌≡◌, ◌++◌, drop}
use Rattle.trace_index.specs.Attempts.{left_unanswered}
use Rattle.trace_index.proofs.attempts.add_left.Given as goal

abbrev pub invariant-loop-place : goal.invariant-loop-place
invariant-loop-place l = l.attempts.items ++ left_unanswered (drop l.place l.latest) ≡ l.fn.attempts.items ++ left_unanswered l.latest
