use Rattle.std.proofs.Common.{◌+◌, ℕ, slice_get, inl, inr, sym, ap, ◌∙◌, rules, arith}
use Rattle.std.proofs.lemmas.Option.{slice_get_within}
use Rattle.stamp_check.proofs.StampLemmas.{one_less}
use Rattle.stamp_check.proofs.nexts_rise.Goals as goal

pub loop-next-preserved : goal.loop-next-preserved
loop-next-preserved c = λ i a b low at_a at_b. elim (one_less (i + 1) c.loop-next.next low) [
  | inl earlier ↦ c.loop-next.invariant i a b earlier at_a at_b
  | inr here ↦ c.is_next_above.ensures (search rules) i a b here at_a (ap (λ (m : ℕ). slice_get c.args.order.now m) (sym here) ∙ at_b)
]

pub returns : goal.returns
returns c = λ go i a b at_a at_b. c.loop-next.invariant i a b (let low = slice_get_within c.args.order.now (i + 1) b at_b in omega (arith, low, c.loop-next-test.false)) at_a at_b
