use Rattle.std.proofs.Common.{◌≡◌, drop, map}
use Rattle.serde_json.specs.View.{view}
use Rattle.trace_reading.specs.Trace.{object_behind}
use Rattle.trace_reading.specs.Steps.{each_from}
use Rattle.trace_reading.proofs.recording.Recording.add_objects.Given as goal

abbrev pub invariant-loop-before : goal.invariant-loop-before
invariant-loop-before l = each_from object_behind l.self l.before (map view (drop l.before l.objects)) ≡ each_from object_behind l.fn.self 0 (map view l.objects)
