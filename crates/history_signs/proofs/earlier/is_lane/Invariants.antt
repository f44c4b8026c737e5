use Rattle.std.proofs.Common.{◌≡◌, drop}
use Rattle.history_signs.specs.Chosen.{is_among}
use Rattle.history_signs.proofs.earlier.is_lane.Given as goal

abbrev pub invariant-loop-other : goal.invariant-loop-other
invariant-loop-other l = is_among l.lane (drop l.other-index l.lanes) ≡ is_among l.lane l.lanes
