use Rattle.std.proofs.Common.{◌≡◌, ℕ, ◌<◌, Some, slice_get, rules, arith}
use Rattle.version_ranks.specs.declared.rank.Rank.{Rank}
use Rattle.list_ranks.proofs.CheckLemmas.{below_next}
use Rattle.list_ranks.proofs.ranks.are_lower.Goals as goal

pub loop-place-preserved : goal.loop-place-preserved
loop-place-preserved c = below_next (λ (p : ℕ). (rank : Rank) → slice_get c.args.versions.now p ≡ Some rank → rank.key < c.args.above) c.loop-place.place c.loop-place.invariant (c.is_lower.ensures (search rules))

pub returns : goal.returns
returns c = λ go p less. c.loop-place.invariant p (omega (arith, less, c.loop-place-test.false))
