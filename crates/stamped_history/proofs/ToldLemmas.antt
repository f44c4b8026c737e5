-- Keys by number, and the history that is told.
use Rattle.std.proofs.Common.{◌≡◌, ℕ, zero, suc, ◌+◌, ◌<◌, ◌⊎◌, ◌==◌, if◌then◌else◌, Bool, true, false, List, [], ◌∷◌, Some, length, slice_get, refl, sym, subst, ap, ◌∙◌, arith}
use Rattle.std.proofs.lemmas.Bool.{eqb-true}
use Rattle.std.proofs.lemmas.Option.{same_Some}
use Rattle.history_book.specs.declared.item.Item.{Item}
use Rattle.trace_rules.specs.declared.wanted.Level.{Level}
use Rattle.trace_rules.specs.Trace.{Trace}
use Rattle.trace_items.specs.Items.{history_of}
use Rattle.stamped_history.specs.Order.{ArePlaced, HaveNodes, points_of, stamps_by}
use Rattle.stamped_history.specs.Told.{Ascends, IsHistory, number_of, telling_by}
use Rattle.stamped_history.proofs.OrderLemmas.{are_ranked, in_order}

pub one_less : (n m : ℕ) → n < m + 1 → (n < m) ⊎ (n ≡ m)
one_less n m less = grind (arith, less)

-- ---- no two keys have one number
numbers_differ : (keys : List ℕ) (k l : ℕ) → number_of keys k ≡ number_of keys l → k ≡ l
unfolding number_of
numbers_differ [] k l same = same
numbers_differ (x ∷ xs) k l same = by (x == k) (x == l) refl refl (numbers_differ xs k l) same
  where
    by : (a b : Bool) → (x == k) ≡ a → (x == l) ≡ b → (number_of xs k ≡ number_of xs l → k ≡ l) → (if a then 0 else suc (number_of xs k)) ≡ (if b then 0 else suc (number_of xs l)) → k ≡ l
    by true true e f deeper same = sym (eqb-true x k e) ∙ eqb-true x l f
    by true false e f deeper same = absurd (omega (arith, same))
    by false true e f deeper same = absurd (omega (arith, same))
    by false false e f deeper same = deeper (omega (arith, same))

-- ---- a key among those that ascend
tail_ascends : (x : ℕ) (xs : List ℕ) → Ascends (x ∷ xs) (length (x ∷ xs)) → Ascends xs (length xs)
tail_ascends x xs up = λ i a b less at_a at_b. up (suc i) a b (omega (arith, less)) at_a at_b

first_below : (xs : List ℕ) (p x y : ℕ) → Ascends (x ∷ xs) (length (x ∷ xs)) → slice_get xs p ≡ Some y → x < y
first_below [] p x y up at = absurd (cc)
first_below (z ∷ xs) zero x y up at = up 0 x y (omega arith) refl at
first_below (z ∷ xs) (suc p) x y up at =
    let low : x < z = up 0 x z (omega arith) refl refl in
    let high = first_below xs p z y (tail_ascends x (z ∷ xs) up) at in
    omega (arith, low, high)

pub number_at_place : (keys : List ℕ) (p k : ℕ) → Ascends keys (length keys) → slice_get keys p ≡ Some k → p ≡ number_of keys k
unfolding number_of
number_at_place [] p k up at = absurd (cc)
number_at_place (x ∷ xs) zero k up at = sym (ap (λ (b : Bool). if b then 0 else suc (number_of xs k)) (itself (same_Some x k at)))
  where
    itself : x ≡ k → (x == k) ≡ true
    itself same = grind (arith, same)
number_at_place (x ∷ xs) (suc p) k up at = ap suc (number_at_place xs p k (tail_ascends x xs up) at) ∙ sym (ap (λ (b : Bool). if b then 0 else suc (number_of xs k)) (other (first_below xs p x k up at)))
  where
    other : x < k → (x == k) ≡ false
    other less = grind (arith, less)

-- ---- the history
pub is_history : (level : Level) (trace : Trace) (numbers : List ℕ) (names : List (List ℕ)) (count : ℕ) (nodes ranks seats keys : List ℕ) (items : List Item) →
    count ≡ length trace.transactions → ArePlaced level trace.transactions numbers nodes ranks (length nodes) → HaveNodes trace.transactions nodes (length trace.transactions) →
    items ≡ history_of (stamps_by count ranks) (telling_by seats keys names) trace (points_of count nodes) → IsHistory level trace numbers names items
is_history level trace numbers names count nodes ranks seats keys items same placed have told = record {
  ranks = stamps_by (length trace.transactions) ranks;
  points = points_of (length trace.transactions) nodes;
  tell = telling_by seats keys names;
  order = in_order level trace numbers nodes ranks placed have;
  ranked = are_ranked level trace numbers nodes ranks placed have;
  keys = numbers_differ keys;
  values = λ value. refl;
  told = subst (λ (n : ℕ). items ≡ history_of (stamps_by n ranks) (telling_by seats keys names) trace (points_of n nodes)) same told;
}
