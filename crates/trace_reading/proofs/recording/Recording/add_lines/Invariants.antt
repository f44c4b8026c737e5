use Rattle.std.proofs.Common.{◌≡◌, ◌+◌, ◌≤◌, length}
use Rattle.history_reading.specs.History.{lines_of}
use Rattle.trace_reading.specs.Trace.{line_behind}
use Rattle.trace_reading.specs.Steps.{each_from}
use Rattle.trace_reading.proofs.recording.Recording.add_lines.Given as goal

abbrev pub invariant-loop-line : goal.invariant-loop-line
invariant-loop-line l = record {
  made : each_from line_behind l.self l.before (lines_of l.rest) ≡ each_from line_behind l.fn.self 0 (lines_of l.bytes);
  counted : l.before + length l.rest ≤ length l.bytes;
}

abbrev pub decreases-loop-line : goal.decreases-loop-line
decreases-loop-line l = length l.rest
