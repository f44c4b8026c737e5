use Rattle.std.proofs.Common.{◌≡◌, ◌++◌, drop, map}
use Rattle.trace_index.proofs.indexing.times_of.Given as goal

abbrev pub invariant-loop-attempt : goal.invariant-loop-attempt
invariant-loop-attempt l = l.times.items ++ map (λ attempt. attempt.times) (drop l.attempt-index l.attempts) ≡ map (λ attempt. attempt.times) l.attempts
