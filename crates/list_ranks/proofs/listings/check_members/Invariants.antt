use Rattle.std.proofs.Common.{◌≡◌, ℕ, ◌<◌, Some, slice_get}
use Rattle.list_ranks.specs.Certified.{IsMember}
use Rattle.list_ranks.proofs.listings.check_members.Given as goal

abbrev pub invariant-loop-place : goal.invariant-loop-place
invariant-loop-place l = (i : ℕ) → i < l.place → (v : ℕ) → slice_get l.values i ≡ Some v → IsMember l.trace l.hints l.key v
