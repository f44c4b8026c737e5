use Rattle.std.proofs.Common.{◌≡◌, ℕ, ◌<◌, Some}
use Rattle.list_orders.specs.Lists.{WriteAt}
use Rattle.list_ranks.specs.Hints.{home_of}
use Rattle.list_ranks.proofs.homes.are_homes.Given as goal

abbrev pub invariant-loop-place : goal.invariant-loop-place
invariant-loop-place l = (q : ℕ) → q < l.place → (w k v : ℕ) → WriteAt l.trace q w k v → home_of l.hints k v ≡ Some q
