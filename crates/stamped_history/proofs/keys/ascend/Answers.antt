use Rattle.std.proofs.Common.{ℕ, suc, slice_get, inl, inr, sym, ap, ◌∙◌, rules, arith}
use Rattle.stamped_history.proofs.ToldLemmas.{one_less}
use Rattle.stamped_history.proofs.keys.ascend.Goals as goal

pub loop-next-preserved : goal.loop-next-preserved
loop-next-preserved c = λ i a b low at_a at_b. elim (one_less (suc i) c.loop-next.next low) [
  | inl earlier ↦ c.loop-next.invariant i a b earlier at_a at_b
  | inr here ↦ c.ascends_at.ensures (search rules) i a b here at_a (ap (λ (m : ℕ). slice_get c.args.keys.now m) (sym here) ∙ at_b)
]

pub returns : goal.returns
returns c = λ go i a b less at_a at_b. c.loop-next.invariant i a b (omega (arith, less, c.loop-next-test.false)) at_a at_b
