use Rattle.std.proofs.Common.{◌≡◌, ℕ, ◌<◌, ◌≤◌, length, slice_get}
use Rattle.list_ranks.proofs.listings.difference.Given as goal

abbrev pub invariant-loop-place : goal.invariant-loop-place
invariant-loop-place l = record {
  short : l.place ≤ length l.all;
  same : (j : ℕ) → j < l.place → slice_get l.values j ≡ slice_get l.all j;
}
