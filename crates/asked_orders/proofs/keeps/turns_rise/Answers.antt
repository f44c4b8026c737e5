use Rattle.std.proofs.Common.{◌+◌, ℕ, slice_get, inl, inr, sym, ap, ◌∙◌, rules, arith}
use Rattle.asked_orders.proofs.KeepLemmas.{one_less}
use Rattle.asked_orders.proofs.keeps.turns_rise.Goals as goal

pub loop-next-preserved : goal.loop-next-preserved
loop-next-preserved c = λ seat a b low at_a at_b. elim (one_less (seat + 1) c.loop-next.next low) [
  | inl earlier ↦ c.loop-next.invariant seat a b earlier at_a at_b
  | inr here ↦ c.is_turn_above.ensures (search rules) seat a b here at_a (ap (λ (m : ℕ). slice_get c.args.turns.now m) (sym here) ∙ at_b)
]

pub returns : goal.returns
returns c = λ go seat a b low at_a at_b. c.loop-next.invariant seat a b (omega (arith, low, c.loop-next-test.false)) at_a at_b
