use Rattle.std.proofs.Common.{ℕ, inl, inr, sym, subst, rules, arith}
use Rattle.stamped_history.specs.Order.{IsPlaced}
use Rattle.stamped_history.proofs.ToldLemmas.{one_less}
use Rattle.stamped_history.proofs.placed.are_placed.Goals as goal

pub loop-place-preserved : goal.loop-place-preserved
loop-place-preserved c = λ p low. elim (one_less p c.loop-place.place low) [
  | inl earlier ↦ c.loop-place.invariant p earlier
  | inr here ↦ subst (λ (m : ℕ). IsPlaced c.args.level c.args.transactions.now c.args.numbers.now c.args.nodes.now c.args.ranks.now m) (sym here) (c.is_placed.ensures (search rules))
]

pub returns : goal.returns
returns c = λ go p less. c.loop-place.invariant p (omega (arith, less, c.loop-place-test.false))
