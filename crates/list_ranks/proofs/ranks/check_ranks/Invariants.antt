use Rattle.std.proofs.Common.{◌≡◌, ℕ, ◌<◌, Some, slice_get}
use Rattle.version_ranks.specs.declared.rank.Rank.{Rank}
use Rattle.list_ranks.specs.Certified.{IsTrueRank}
use Rattle.list_ranks.proofs.ranks.check_ranks.Given as goal

abbrev pub invariant-loop-place : goal.invariant-loop-place
invariant-loop-place l = (p : ℕ) → p < l.place → (rank : Rank) → slice_get l.hints.ranks p ≡ Some rank → IsTrueRank l.trace l.lists l.hints rank
