use Rattle.std.proofs.Common.{◌≡◌, drop}
use Rattle.history_signs.specs.Lanes.{occurs}
use Rattle.history_signs.proofs.lane.occurs.Given as goal

abbrev pub invariant-loop-one : goal.invariant-loop-one
invariant-loop-one l = occurs l.lane (drop l.one-index l.chosen) ≡ occurs l.lane l.chosen
