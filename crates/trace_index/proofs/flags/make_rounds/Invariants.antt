use Rattle.std.proofs.Common.{◌≡◌, ◌-◌, length}
use Rattle.trace_index.specs.Open.{rounds}
use Rattle.trace_index.proofs.flags.make_rounds.Given as goal

abbrev pub invariant-loop-made : goal.invariant-loop-made
invariant-loop-made l = rounds l.attempts l.operations (length l.attempts - l._made) l.flags ≡ rounds l.attempts l.operations (length l.attempts) l.fn.flags
