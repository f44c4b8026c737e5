use Rattle.std.proofs.Common.{◌≡◌, ℕ, List, Some, length, slice_get, ap, arith}
use Rattle.version_ranks.specs.declared.rank.Rank.{Rank}
use Rattle.list_ranks.specs.Certified.{IsTrueRank}
use Rattle.list_ranks.proofs.CheckLemmas.{below_next}
use Rattle.list_ranks.proofs.ranks.check_ranks.Goals as goal

pub loop-place-preserved : goal.loop-place-preserved
loop-place-preserved c = below_next (λ (p : ℕ). (rank : Rank) → slice_get c.args.hints.now.ranks p ≡ Some rank → IsTrueRank c.args.trace.now c.args.lists.now c.args.hints.now rank) c.loop-place.place c.loop-place.invariant c.in_ok-check_at.ensures.sound

pub returns-clause-sound : goal.returns-clause-sound
returns-clause-sound c = λ p less. c.loop-place.invariant p (let same = ap (λ (xs : List Rank). length xs) c.ranks-place-end.ensures in omega (arith, less, same, c.loop-place-test.false))
