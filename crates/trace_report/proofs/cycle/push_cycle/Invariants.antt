use Rattle.std.proofs.Common.{◌≡◌, ◌++◌, drop}
use Rattle.trace_report.specs.Cycle.{cycle_text}
use Rattle.trace_report.proofs.cycle.push_cycle.Given as goal

abbrev pub invariant-loop-step : goal.invariant-loop-step
invariant-loop-step l = l.text.items ++ cycle_text l.recording.names l.attempts (drop l.step-index l.steps) ≡ l.fn.text.items ++ cycle_text l.recording.names l.attempts l.steps
