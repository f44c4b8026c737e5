use Rattle.std.proofs.Common.{◌≡◌}
use Rattle.history_signs.specs.Chosen.{chosen_below, is_about}
use Rattle.history_signs.proofs.chosen.choose_about.Given as goal

abbrev pub invariant-loop-place : goal.invariant-loop-place
invariant-loop-place l = l.chosen.items ≡ chosen_below (λ number x. is_about l.starts l.numbers number x) l.items 0 l.place
