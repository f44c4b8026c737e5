use Rattle.std.proofs.Common.{get_or, ◌≡◌, ◌-◌, ◌<◌, ℕ, None, List, Option, length, option_and_then, inl, inr, refl, sym, subst, ap, ◌∙◌, arith}
use Rattle.std.proofs.lemmas.Bool.{cases_lt}
use Rattle.std.proofs.lemmas.Option.{slice_get_read}
use Rattle.history_book.specs.Isolation.{written_by}
use Rattle.history_book.specs.declared.item.Item.{Item}
use Rattle.isolation_rules.specs.ReadPairs.{written_at}
use Rattle.isolation_rules.proofs.WriteLemmas.{no_write, last_write_at}
use Rattle.isolation_rules.proofs.visible.last_write.Goals as goal

here : (h : List Item) (t k p : ℕ) (x : Item) (o : Option (List ℕ)) → p < length h → x ≡ get_or h p x → o ≡ written_by t k x → written_at h t k p ≡ o
here h t k p x o less e is = ap (λ o. option_and_then (λ y. written_by t k y) o) (slice_get_read h (length h) p x refl less e) ∙ sym is

pub returns-in-Some-clause-place : goal.returns-in-Some-clause-place
returns-in-Some-clause-place c = record {
  wrote = here c.args.items.now c.args.start c.args.key (c.loop-place.place - 1) c.index-items-place.result _ (omega (arith, c.loop-place-test.true, c.loop-place.auto.place)) c.index-items-place.is c.in-Some.ensures;
  last = λ later less. c.loop-place.invariant later (omega arith);
}

pub returns-in-Some-clause-value : goal.returns-in-Some-clause-value
returns-in-Some-clause-value c = last_write_at c.args.items.now c.args.start c.args.key c.in-Some.value (c.loop-place.place - 1) (record {
  wrote = here c.args.items.now c.args.start c.args.key (c.loop-place.place - 1) c.index-items-place.result _ (omega (arith, c.loop-place-test.true, c.loop-place.auto.place)) c.index-items-place.is c.in-Some.ensures;
  last = λ later less. c.loop-place.invariant later (omega arith);
})

pub loop-place-preserved : goal.loop-place-preserved
loop-place-preserved c = λ p le. elim (cases_lt p c.loop-place.place) [
  | inl less ↦
      let at : c.loop-place.place - 1 ≡ p = omega (arith, le, less, c.loop-place-test.true) in
      subst (λ (n : ℕ). written_at c.args.items.now c.args.start c.args.key n ≡ None) at (here c.args.items.now c.args.start c.args.key (c.loop-place.place - 1) c.index-items-place.result _ (omega (arith, c.loop-place-test.true, c.loop-place.auto.place)) c.index-items-place.is c.in_default.ensures)
  | inr more ↦ c.loop-place.invariant p more
]

pub returns-clause-value : goal.returns-clause-value
returns-clause-value c = no_write c.args.items.now c.args.start c.args.key (λ p. c.loop-place.invariant p (omega (arith, c.loop-place-test.false)))
