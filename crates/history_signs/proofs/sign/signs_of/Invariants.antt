use Rattle.std.proofs.Common.{◌≡◌, length}
use Rattle.history_signs.proofs.SignLemmas.{Each}
use Rattle.history_signs.proofs.sign.signs_of.Given as goal

abbrev pub invariant-loop-column : goal.invariant-loop-column
invariant-loop-column l = record {
  all : length l.signs.items ≡ l.column;
  each : Each l.lanes l.ringed l.chosen l.signs.items;
}
