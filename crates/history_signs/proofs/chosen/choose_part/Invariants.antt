use Rattle.std.proofs.Common.{◌≡◌}
use Rattle.history_signs.specs.Chosen.{chosen_in}
use Rattle.history_signs.proofs.chosen.choose_part.Given as goal

abbrev pub invariant-loop-ahead : goal.invariant-loop-ahead
invariant-loop-ahead l = l.chosen.items ≡ chosen_in l.brief l.items l.from l.ahead
