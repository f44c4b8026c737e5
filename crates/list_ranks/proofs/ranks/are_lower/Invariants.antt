use Rattle.std.proofs.Common.{◌≡◌, ℕ, ◌<◌, Some, slice_get}
use Rattle.version_ranks.specs.declared.rank.Rank.{Rank}
use Rattle.list_ranks.proofs.ranks.are_lower.Given as goal

abbrev pub invariant-loop-place : goal.invariant-loop-place
invariant-loop-place l = (p : ℕ) → p < l.place → (rank : Rank) → slice_get l.versions p ≡ Some rank → rank.key < l.above
