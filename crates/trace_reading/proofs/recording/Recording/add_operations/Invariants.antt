use Rattle.std.proofs.Common.{◌≡◌, drop, map}
use Rattle.serde_json.specs.View.{view}
use Rattle.trace_reading.specs.Operations.{operation_step}
use Rattle.trace_reading.specs.Steps.{each_from}
use Rattle.trace_reading.proofs.recording.Recording.add_operations.Given as goal

abbrev pub invariant-loop-place : goal.invariant-loop-place
invariant-loop-place l = each_from operation_step l.self l.place (map view (drop l.place l.values)) ≡ each_from operation_step l.fn.self 0 (map view l.values)
