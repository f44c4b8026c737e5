use Rattle.std.proofs.Common.{◌≡◌, ◌+◌, ℕ, true, length, slice_get, inl, inr, sym, subst, rules, arith}
use Rattle.trace_rules.specs.Trace.{committed_in}
use Rattle.stamped_history.specs.Order.{Has}
use Rattle.stamped_history.proofs.ToldLemmas.{one_less}
use Rattle.stamped_history.proofs.placed.have_nodes.Goals as goal

pub loop-txn-preserved : goal.loop-txn-preserved
loop-txn-preserved c = λ t low done. elim (one_less t c.loop-txn.txn low) [
  | inl earlier ↦ c.loop-txn.invariant t earlier done
  | inr here ↦ subst (λ (m : ℕ). Has c.args.nodes.now m × Has c.args.nodes.now (length c.args.transactions.now + m)) (sym here)
      (c.has_both.ensures (search rules) (subst (λ (m : ℕ). committed_in (slice_get c.args.transactions.now m) ≡ true) here done))
]

pub returns : goal.returns
returns c = λ go t less done. c.loop-txn.invariant t (omega (arith, less, c.loop-txn-test.false)) done
