use Rattle.std.proofs.Common.{◌+◌, inl, inr, rules, arith}
use Rattle.asked_orders.proofs.KeepLemmas.{one_less}
use Rattle.asked_orders.proofs.keeps.moments_rise.Goals as goal

pub loop-next-preserved : goal.loop-next-preserved
loop-next-preserved c = λ place low. elim (one_less (place + 1) c.loop-next.next low) [
  | inl earlier ↦ c.loop-next.invariant place earlier
  | inr here ↦ c.next_rises.ensures (search rules) place here
]

pub returns : goal.returns
returns c = λ go place low. c.loop-next.invariant place (omega (arith, low, c.loop-next-test.false))
