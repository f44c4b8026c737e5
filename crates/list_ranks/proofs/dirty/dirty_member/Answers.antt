use Rattle.std.proofs.Common.{◌≡◌, ℕ, Some, slice_get, rules, arith}
use Rattle.std.proofs.lemmas.Option.{slice_get_within}
use Rattle.list_ranks.specs.Told.{HasDone}
use Rattle.list_ranks.proofs.CheckLemmas.{below_next}
use Rattle.list_ranks.proofs.dirty.dirty_member.Goals as goal

pub loop-place-preserved : goal.loop-place-preserved
loop-place-preserved c = below_next (λ (j : ℕ). (v : ℕ) → slice_get c.args.values.now j ≡ Some v → HasDone c.args.trace.now c.args.key v) c.loop-place.place c.loop-place.invariant (c.is_done_at.ensures.yes (search rules))

pub returns-clause-none : goal.returns-clause-none
returns-clause-none c = λ j v at. let within = slice_get_within c.args.values.now j v at in c.loop-place.invariant j (omega (arith, within, c.loop-place-test.false)) v at
