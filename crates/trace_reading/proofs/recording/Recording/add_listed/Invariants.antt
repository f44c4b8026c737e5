use Rattle.std.proofs.Common.{◌≡◌, drop, map}
use Rattle.serde_json.specs.View.{view}
use Rattle.trace_reading.specs.Operations.{listed_step}
use Rattle.trace_reading.specs.Steps.{each_from}
use Rattle.trace_reading.proofs.recording.Recording.add_listed.Given as goal

abbrev pub invariant-loop-member : goal.invariant-loop-member
invariant-loop-member l = each_from (listed_step l.place) l.self l.member (map view (drop l.member l.values)) ≡ each_from (listed_step l.place) l.fn.self 0 (map view l.values)
