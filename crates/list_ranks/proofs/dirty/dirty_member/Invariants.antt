use Rattle.std.proofs.Common.{◌≡◌, ℕ, ◌<◌, Some, slice_get}
use Rattle.list_ranks.specs.Told.{HasDone}
use Rattle.list_ranks.proofs.dirty.dirty_member.Given as goal

abbrev pub invariant-loop-place : goal.invariant-loop-place
invariant-loop-place l = (j : ℕ) → j < l.place → (v : ℕ) → slice_get l.values j ≡ Some v → HasDone l.trace l.key v
