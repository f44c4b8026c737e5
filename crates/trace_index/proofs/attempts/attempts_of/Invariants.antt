use Rattle.std.proofs.Common.{◌≡◌, ◌++◌, drop}
use Rattle.trace_index.specs.Attempts.{attempts_from, attempts_of}
use Rattle.trace_index.proofs.attempts.attempts_of.Given as goal

abbrev pub invariant-loop-event : goal.invariant-loop-event
invariant-loop-event l = l.attempts.items ++ attempts_from l.latest (drop l.event-index l.events) ≡ attempts_of l.events
