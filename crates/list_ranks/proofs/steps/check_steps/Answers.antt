use Rattle.std.proofs.Common.{ℕ, arith}
use Rattle.list_ranks.specs.Certified.{IsStep}
use Rattle.list_ranks.proofs.CheckLemmas.{below_next}
use Rattle.list_ranks.proofs.steps.check_steps.Goals as goal

pub loop-place-preserved : goal.loop-place-preserved
loop-place-preserved c = below_next (λ (i : ℕ). IsStep c.args.trace.now c.args.hints.now c.args.key c.args.values.now i) c.loop-place.place c.loop-place.invariant c.in_ok-check_step.ensures.sound

pub returns-clause-sound : goal.returns-clause-sound
returns-clause-sound c = λ i less. c.loop-place.invariant i (omega (arith, less, c.loop-place-test.false))
