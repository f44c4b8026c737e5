use Rattle.std.proofs.Common.{◌≢◌, ℕ, ◌+◌, ◌-◌, ◌<◌, ◌≤◌, [], ◌∷◌, ◌++◌, length, get_or}
use Rattle.rising_numbers.specs.Rises.{Leads}
use Rattle.rising_numbers.proofs.walk.Walk.round.Given as goal

abbrev pub invariant-loop-back : goal.invariant-loop-back
invariant-loop-back l = record {
  leads : Leads l.edges l.met l.places.items (get_or (l.self.path.items ++ l.met ∷ []) (length l.self.path.items - l.back) 0);
  missed : (j : ℕ) → length l.self.path.items ≤ j + l.back → j < length l.self.path.items → get_or l.self.path.items j 0 ≢ l.met;
}
