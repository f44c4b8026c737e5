use Rattle.std.proofs.Common.{◌≡◌, ◌++◌, drop, map}
use Rattle.trace_index.specs.Open.{is_committed}
use Rattle.trace_index.proofs.flags.committed.Given as goal

abbrev pub invariant-loop-attempt : goal.invariant-loop-attempt
invariant-loop-attempt l = l.flags.items ++ map (λ attempt. is_committed attempt.fate) (drop l.attempt-index l.attempts) ≡ map (λ attempt. is_committed attempt.fate) l.attempts
