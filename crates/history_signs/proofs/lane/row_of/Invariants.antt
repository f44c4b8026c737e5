use Rattle.std.proofs.Common.{◌≡◌, ◌+◌, ◌≤◌, drop}
use Rattle.history_signs.specs.Lanes.{row_of}
use Rattle.history_signs.proofs.lane.row_of.Given as goal

abbrev pub invariant-loop-other : goal.invariant-loop-other
invariant-loop-other l = record {
  sum : l.row + row_of l.lane (drop l.other-index l.lanes) ≡ row_of l.lane l.lanes;
  few : l.row ≤ l.other-index;
}
