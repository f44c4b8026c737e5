use Rattle.std.proofs.Common.{◌≡◌, ◌+◌, ◌≤◌, drop}
use Rattle.history_signs.specs.Chosen.{column_of}
use Rattle.history_signs.proofs.chosen.column_of.Given as goal

abbrev pub invariant-loop-other : goal.invariant-loop-other
invariant-loop-other l = record {
  sum : l.column + column_of l.place (drop l.other-index l.chosen) ≡ column_of l.place l.chosen;
  few : l.column ≤ l.other-index;
}
