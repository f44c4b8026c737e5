use Rattle.std.proofs.Common.{◌≡◌}
use Rattle.history_signs.specs.Lanes.{lanes_below}
use Rattle.history_signs.proofs.lane.lanes_of.Given as goal

abbrev pub invariant-loop-lane : goal.invariant-loop-lane
invariant-loop-lane l = l.lanes.items ≡ lanes_below l.lane l.chosen
