use Rattle.std.proofs.Common.{◌≤◌}
use Rattle.history_signs.specs.Signs.{NoneShows}
use Rattle.history_signs.proofs.sign.link_of.Given as goal

abbrev pub invariant-loop-rest : goal.invariant-loop-rest
invariant-loop-rest l = record {
  none : NoneShows l.chosen l.item l.rest l.column;
  within : l.rest ≤ l.column;
}

abbrev pub decreases-loop-rest : goal.decreases-loop-rest
decreases-loop-rest l = l.rest
