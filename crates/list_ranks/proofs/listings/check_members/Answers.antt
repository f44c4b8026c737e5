use Rattle.std.proofs.Common.{◌≡◌, ℕ, Some, slice_get, arith}
use Rattle.std.proofs.lemmas.Option.{slice_get_within}
use Rattle.list_ranks.specs.Certified.{IsMember}
use Rattle.list_ranks.proofs.CheckLemmas.{below_next}
use Rattle.list_ranks.proofs.listings.check_members.Goals as goal

pub loop-place-preserved : goal.loop-place-preserved
loop-place-preserved c = below_next (λ (i : ℕ). (v : ℕ) → slice_get c.args.values.now i ≡ Some v → IsMember c.args.trace.now c.args.hints.now c.args.key v) c.loop-place.place c.loop-place.invariant c.in_ok-check_member.ensures.sound

pub returns-clause-sound : goal.returns-clause-sound
returns-clause-sound c = λ i v at. let within = slice_get_within c.args.values.now i v at in c.loop-place.invariant i (omega (arith, within, c.loop-place-test.false)) v at
