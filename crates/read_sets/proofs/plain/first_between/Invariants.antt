use Rattle.std.proofs.Common.{◌<◌, ℕ}
use Rattle.read_sets.specs.Crossings.{CrossesAt}
use Rattle.read_sets.proofs.plain.first_between.Given as goal

abbrev pub invariant-loop-place : goal.invariant-loop-place
invariant-loop-place l = (q : ℕ) → q < l.place → CrossesAt l.items l.start l.key l.last q → ⊥
