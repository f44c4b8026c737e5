use Rattle.std.proofs.Common.{◌≡◌}
use Rattle.history_signs.specs.Earlier.{earlier_below}
use Rattle.history_signs.proofs.earlier.earlier_bars.Given as goal

abbrev pub invariant-loop-place : goal.invariant-loop-place
invariant-loop-place l = l.bars.items ≡ earlier_below l.lanes l.chosen l.from l.items l.place
