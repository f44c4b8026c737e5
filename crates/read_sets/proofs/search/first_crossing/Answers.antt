use Rattle.std.proofs.Common.{◌≡◌, ◌<◌, ℕ, List, Some, length, take, slice_get, inl, inr, refl, subst, arith}
use Rattle.std.proofs.lemmas.Bool.{cases_lt}
use Rattle.std.proofs.lemmas.Option.{slice_get_read}
use Rattle.history_book.specs.declared.item.Item.{Item}
use Rattle.read_sets.specs.Crossings.{Stands}
use Rattle.read_sets.specs.Index.{AreCleared}
use Rattle.read_sets.proofs.CrossingLemmas.{one_more, stands_here, stands_uncrossed}
use Rattle.read_sets.proofs.search.first_crossing.Goals as goal

pub returns-in-Some-clause-pair : goal.returns-in-Some-clause-pair
returns-in-Some-clause-pair c = record {
  crossed = c.in-Some.ensures.second.0;
  first = λ p q less crossed. stands_uncrossed c.args.items.now p q (c.loop-first.invariant.stood p less) crossed;
  second = c.in-Some.ensures.second.1;
}

pub loop-first-preserved : goal.loop-first-preserved
loop-first-preserved c =
    let items = c.args.items.now in
    let first = c.loop-first.first in
    let x = c.index-items-first.result in
    let less : first < length items = omega (arith, c.loop-first-test.true) in
    let here : slice_get items first ≡ Some x = slice_get_read items (length items) first x refl less c.index-items-first.is in
    record {
      index = c.loop-first.invariant.index;
      stood = λ i below. elim (cases_lt i first) [
        | inl before ↦ c.loop-first.invariant.stood i before
        | inr more ↦ let at : first ≡ i = omega (arith, below, more) in subst (λ (n : ℕ). Stands items n) at c.in_default.ensures.second
      ];
      cleared = subst (λ (part : List Item). AreCleared items part c.note.new.self) (one_more items first x less c.index-items-first.is)
          (c.note.ensures items (take first items) (stands_here items first x here c.in_default.ensures.second) c.loop-first.invariant.cleared);
    }
