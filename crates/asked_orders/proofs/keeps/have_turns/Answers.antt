use Rattle.std.proofs.Common.{◌≡◌, ◌<◌, ℕ, length, slice_get, Some, inl, inr, sym, subst, rules, arith}
use Rattle.std.proofs.lemmas.Option.{slice_get_within}
use Rattle.asked_orders.proofs.KeepLemmas.{one_less}
use Rattle.asked_orders.proofs.keeps.have_turns.Goals as goal

pub loop-txn-preserved : goal.loop-txn-preserved
loop-txn-preserved c = λ t x low at done. elim (one_less t c.loop-txn.txn low) [
  | inl earlier ↦ c.loop-txn.invariant t x earlier at done
  | inr here ↦ subst (λ (m : ℕ). (seat : ℕ) × (slice_get c.args.turns.now seat ≡ Some (record { process = x.process; txn = m }))) (sym here)
      (c.has_turn.ensures (search rules) x (subst (λ (m : ℕ). slice_get c.args.transactions.now m ≡ Some x) here at) done)
]

pub returns : goal.returns
returns c = λ go t x low at done. c.loop-txn.invariant t x (omega (arith, low, c.loop-txn-test.false)) at done
