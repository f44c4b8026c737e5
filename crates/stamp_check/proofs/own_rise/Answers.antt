use Rattle.std.proofs.Common.{◌≡◌, ◌<◌, ℕ, true, length, slice_get, get_or, inl, inr, sym, subst, rules, arith, ◌+◌}
use Rattle.trace_rules.specs.Trace.{committed_in}
use Rattle.outer_reads.specs.Sources.{trace_of}
use Rattle.stamp_check.proofs.StampLemmas.{one_less, done_within}
use Rattle.stamp_check.proofs.own_rise.Goals as goal

pub loop-txn-preserved : goal.loop-txn-preserved
loop-txn-preserved c = λ t operations low done. elim (one_less t c.loop-txn.txn low) [
  | inl earlier ↦ c.loop-txn.invariant t operations earlier done
  | inr here ↦ subst (λ (m : ℕ). get_or c.args.numbers.now m 0 < get_or c.args.numbers.now (length c.args.transactions.now + m) 0) (sym here)
      (c.is_own_above.ensures (search rules) (subst (λ (m : ℕ). committed_in (slice_get c.args.transactions.now m) ≡ true) here done))
]

pub returns : goal.returns
returns c = λ go operations t done. c.loop-txn.invariant t operations (let low = done_within (trace_of c.args.transactions.now operations) t done in omega (arith, low, c.loop-txn-test.false)) done
