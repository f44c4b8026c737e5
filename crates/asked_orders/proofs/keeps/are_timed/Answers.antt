use Rattle.std.proofs.Common.{◌≡◌, ℕ, true, slice_get, inl, inr, sym, subst, rules, arith}
use Rattle.trace_rules.specs.Trace.{committed_in}
use Rattle.asked_orders.specs.Keeps.{ArePointsTimed}
use Rattle.asked_orders.proofs.KeepLemmas.{one_less}
use Rattle.asked_orders.proofs.keeps.are_timed.Goals as goal

pub loop-txn-preserved : goal.loop-txn-preserved
loop-txn-preserved c = λ t low done. elim (one_less t c.loop-txn.txn low) [
  | inl earlier ↦ c.loop-txn.invariant t earlier done
  | inr here ↦ subst (λ (m : ℕ). ArePointsTimed c.args.level c.args.times.now c.args.nodes.starts c.args.nodes.points c.args.moments.now c.args.numbers.now m) (sym here)
      (c.are_points_timed.ensures (search rules) (subst (λ (m : ℕ). committed_in (slice_get c.args.transactions.now m) ≡ true) here done))
]

pub returns : goal.returns
returns c = λ go t low done. c.loop-txn.invariant t (omega (arith, low, c.loop-txn-test.false)) done
