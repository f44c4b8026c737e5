-- What a set has after one more key, and what of it lies in a range.
use Rattle.std.proofs.Common.{◌≡◌, ◌<◌, ◌≤◌, ◌+◌, ◌⊎◌, ℕ, Bool, true, false, cond, List, [], ◌∷◌, inl, inr, refl, sym, ap, subst, ◌∙◌, arith}
use Rattle.std.specs.Ordering.{nat_cmp, ordering_then, is_lt}
use Rattle.std.specs.declared.cmp.Ordering.{Ordering}
use Rattle.std.specs.declared.cmp.Ordering.TheVariants.{Less, Equal, Greater}
use Rattle.std.specs.declared.ops.Bound.{Bound}
use Rattle.std.specs.declared.ops.Bound.TheVariants.{Included, Excluded}
use Rattle.std.specs.BTreeMap.{is_at}
use Rattle.std.specs.BTreeMap.Range.{range_contains, IsInRange}
use Rattle.std.specs.Prelude.{Result, Ok, Err, OnOk, OnErr}
use Rattle.std.specs.BTreeSet.{BTreeSet, contains, keys_between, Updates, IsUnchanged}
use Rattle.std.specs.List.{list_any, filter}
use Rattle.std.proofs.lemmas.Bool.{or_cases}
use Rattle.std.proofs.lemmas.Bool.Decides.{nat_tests}
use Rattle.std.proofs.lemmas.Map.Lookups.{CmpEqualImpliesEq, exact_pairs, exact_unsigned}
use Rattle.std.proofs.lemmas.Map.Views.{tells_apart}
use Rattle.history_book.specs.Members.{◌∈◌}
use Rattle.read_sets.specs.Index.{Pairs, Triples, HasPair, MayGain, KeepsTriples, pair_cmp, triple_cmp}

-- ---- keys that are equal are one
pub exact_pair : CmpEqualImpliesEq pair_cmp
exact_pair = exact_pairs nat_cmp nat_cmp exact_unsigned exact_unsigned

both_equal : (a b : Ordering) → ordering_then a b ≡ Equal → (a ≡ Equal) × (b ≡ Equal)
both_equal Equal b e = (refl, e)
both_equal Less b e = absurd (cc)
both_equal Greater b e = absurd (cc)

pub exact_triple : CmpEqualImpliesEq triple_cmp
exact_triple x y e =
    let outer = both_equal (ordering_then (nat_cmp x.0 y.0) (nat_cmp x.1 y.1)) (nat_cmp x.2 y.2) e in
    let inner = both_equal (nat_cmp x.0 y.0) (nat_cmp x.1 y.1) outer.0 in
    λ i. (exact_unsigned x.0 y.0 inner.0 i, exact_unsigned x.1 y.1 inner.1 i, exact_unsigned x.2 y.2 outer.1 i)

-- ---- what lies in a range
any_in : {K : Type 0} (cmp : K → K → Ordering) → CmpEqualImpliesEq cmp → (q : K) (ks : List K) → list_any (is_at (cmp q)) ks ≡ true → q ∈ ks
unfolding ◌∈◌
any_in cmp exact q [] e = absurd (cc)
any_in cmp exact q (x ∷ ks) e = elim (or_cases (is_at (cmp q) x) (list_any (is_at (cmp q)) ks) e) [
  | inl here ↦ inl (tells_apart exact q x here)
  | inr later ↦ inr (any_in cmp exact q ks later)
]

kept_in : {K : Type 0} (b : Bool) (q x : K) (rest : List K) → (q ≡ x → b ≡ true) → ((q ≡ x) ⊎ (q ∈ rest)) → q ∈ cond b (x ∷ rest) rest
unfolding ◌∈◌
kept_in true q x rest on m = m
kept_in false q x rest on m = elim m [ inl same ↦ let clash = on same in absurd (cc) | inr later ↦ later ]

in_filter : {K : Type 0} (p : K → Bool) (q : K) (ks : List K) → q ∈ ks → p q ≡ true → q ∈ filter p ks
unfolding ◌∈◌
in_filter p q [] m on = m
in_filter p q (x ∷ ks) m on = kept_in (p x) q x (filter p ks) (λ same. sym (ap p same) ∙ on) (elim m [ inl same ↦ inl same | inr later ↦ inr (in_filter p q ks later on) ])

pub in_between : {K : Type 0} (cmp : K → K → Ordering) → CmpEqualImpliesEq cmp → (lo hi : Bound K) (set : BTreeSet K) (q : K) → contains cmp set q ≡ true → range_contains cmp lo hi q ≡ true → q ∈ keys_between cmp lo hi set
in_between cmp exact lo hi set q has within = in_filter (range_contains cmp lo hi) q set.keys (any_in cmp exact q set.keys has) within

pub own_within : (t c : ℕ) → range_contains pair_cmp (Included (t, 0)) (Excluded (t + 1, 0)) (t, c) ≡ true
own_within t c = grind (arith, nat_tests)

pub own_in_range : (t c : ℕ) → IsInRange pair_cmp (Included (t, 0)) (Excluded (t + 1, 0)) (t, c)
own_in_range t c = (grind (arith, nat_tests), grind (arith, nat_tests))

own_of_range : (t a c : ℕ) → IsInRange pair_cmp (Included (t, 0)) (Excluded (t + 1, 0)) (a, c) → a ≡ t
own_of_range t a c within = let low = within.0 in let high = within.1 in grind (arith, nat_tests, low, high)

not_above : (t a c d : ℕ) → a ≡ t → is_lt (pair_cmp (a, c) (t, d)) ≡ false → d ≤ c
not_above t a c d same e = grind (arith, nat_tests, same, e)

-- the last pair of a number has its greatest
pub last_above : (t d : ℕ) (q : ℕ × ℕ) → IsInRange pair_cmp (Included (t, 0)) (Excluded (t + 1, 0)) q → is_lt (pair_cmp q (t, d)) ≡ false → d ≤ q.1
last_above t d q within e = not_above t q.0 q.1 d (own_of_range t q.0 q.1 within) e

pub crossing_within : (k s d m c t : ℕ) → s < c → c < d → range_contains triple_cmp (Excluded (k, s, m)) (Excluded (k, d, 0)) (k, c, t) ≡ true
crossing_within k s d m c t above below = grind (arith, nat_tests, above, below)

-- ---- one more key
cond_kept : (b a : Bool) → a ≡ true → cond b true a ≡ true
cond_kept true a e = refl
cond_kept false a e = e

pub set_kept : {K : Type 0} (cmp : K → K → Ordering) (m n : BTreeSet K) (k q : K) → Updates cmp m n k true → contains cmp m q ≡ true → contains cmp n q ≡ true
set_kept cmp m n k q put has = put.0 q ∙ cond_kept (is_at (cmp k) q) (contains cmp m q) has

pub pair_gained : (m n : Pairs) (s k : ℕ) → Updates pair_cmp m n (s, k) true → MayGain m n s k
pair_gained m n s k put = λ a b has. by a b has (is_at (pair_cmp (s, k)) (a, b)) refl
  where
    by : (a b : ℕ) → HasPair n a b → (r : Bool) → is_at (pair_cmp (s, k)) (a, b) ≡ r → HasPair m a b ⊎ ((a ≡ s) × (b ≡ k))
    by a b has true e = let same : (s, k) ≡ (a, b) = tells_apart exact_pair (s, k) (a, b) e in inr (sym (ap (λ (q : ℕ × ℕ). q.0) same), sym (ap (λ (q : ℕ × ℕ). q.1) same))
    by a b has false e = inl (sym (put.2 (a, b) e) ∙ has)

-- an insertion that may be refused
pub may_gain : {E : Type 0} (r : Result Bool E) (m n : Pairs) (s k : ℕ) → OnOk r (Updates pair_cmp m n (s, k) true) → OnErr r (IsUnchanged m n) → MayGain m n s k
may_gain (Ok added) m n s k put same = pair_gained m n s k put
may_gain (Err e) m n s k put same = λ a b has. inl (sym (ap (λ ks. list_any (is_at (pair_cmp (a, b))) ks) same) ∙ has)

pub gains_at : (m n : Pairs) (s k a b : ℕ) → a ≡ s → b ≡ k → MayGain m n a b → MayGain m n s k
gains_at m n s k a b first second gains = subst (λ (i : ℕ). MayGain m n i k) first (subst (λ (i : ℕ). MayGain m n a i) second gains)

pub triples_kept : (m n : Triples) (k c t : ℕ) → Updates triple_cmp m n (k, c, t) true → KeepsTriples m n
triples_kept m n k c t put = λ l d u has. set_kept triple_cmp m n (k, c, t) (l, d, u) put has

-- ---- a walk over a range
pub come_or_gone : {K : Type 0} (q x : K) (rest : List K) → q ∈ (x ∷ rest) → (q ≡ x) ⊎ (q ∈ rest)
unfolding ◌∈◌
come_or_gone q x rest m = m

pub none_left : {K : Type 0} (q : K) → q ∈ [] → ⊥
unfolding ◌∈◌
none_left q m = m
