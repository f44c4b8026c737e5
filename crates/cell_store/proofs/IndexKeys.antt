-- What an index of versions and keys has of a version, and what a change of the rows and the index keeps.
use Rattle.std.proofs.Common.{◌≡◌, ℕ, ◌<◌, ◌==◌, Bool, true, false, ◌&&◌, if◌then◌else◌, List, [], ◌∷◌, map, None, is_some, IsSome, inl, inr, refl, sym, subst, ap, ◌∙◌, arith}
use Rattle.std.specs.Ordering.{nat_cmp}
use Rattle.std.specs.declared.cmp.Ordering.TheVariants.{Less}
use Rattle.std.specs.BTreeMap.{is_at}
use Rattle.std.specs.BTreeMap.Range.{range_contains}
use Rattle.std.specs.BTreeSet as sorted
use Rattle.std.specs.BTreeSet.{BTreeSet}
use Rattle.std.specs.declared.ops.Bound.TheVariants.{Included}
use Rattle.std.specs.List.{filter, list_any, AllByRecursion}
use Rattle.std.specs.List.Sorted.{IsStrictlySortedBy}
use Rattle.std.proofs.lemmas.Bool.Decides.{nat_tests}
use Rattle.std.proofs.lemmas.Cmp.{nat_cmp_total}
use Rattle.std.proofs.lemmas.Map.Lookups.{btree_set_from_contains, exact_unsigned}
use Rattle.system_parts.specs.Rows.{Row, put_row, looked, with_shadow, without_bare, keys_of_version, AreOrdered, IsBare}
use Rattle.system_parts.proofs.RowLaws.{looked-put_bare, looked-put_other, looked-without_other}
use Rattle.system_parts.proofs.RowVersions.{keys_of_version-sorted, without_bare_gone}
use Rattle.cell_store.specs.Index.{Entry, entry_of, entry_cmp, key_of}
use Rattle.cell_store.proofs.Places.{placed, is_some-shadow}

-- ---- the keys of a version
-- the keys of the entries of t
abbrev entry_keys : ℕ → List Entry → List ℕ
entry_keys t [] = []
entry_keys t (x ∷ xs) = if x.0.0 == t then x.1 ∷ entry_keys t xs else entry_keys t xs

in_index : (t a b : ℕ) → (a ≡ t → b < 4096) → range_contains entry_cmp (Included (entry_of t 0)) (Included (entry_of t 4095)) (entry_of a b) ≡ (a == t)
in_index t a b h = grind (arith, nat_tests)

at_entry : (t q a b : ℕ) → is_at (entry_cmp (entry_of t q)) (entry_of a b) ≡ ((a == t) && (b == q))
at_entry t q a b = grind (arith, nat_tests)

abbrev Few : ℕ → List Entry → Type 0
Few t ks = (q : ℕ) → list_any (is_at (entry_cmp (entry_of t q))) ks ≡ true → q < 4096

few_first : (t : ℕ) (x : Entry) (xs : List Entry) → Few t (x ∷ xs) → x.0.0 ≡ t → x.1 < 4096
few_first t x xs few e = few x.1 (grind (arith, nat_tests, at_entry t x.1 x.0.0 x.1))

few_later : (t : ℕ) (x : Entry) (xs : List Entry) → Few t (x ∷ xs) → Few t xs
few_later t x xs few q h = few q (grind (arith, h))

entry_keys-between : (t : ℕ) (ks : List Entry) → Few t ks → map key_of (filter (range_contains entry_cmp (Included (entry_of t 0)) (Included (entry_of t 4095))) ks) ≡ entry_keys t ks
entry_keys-between t [] few = refl
entry_keys-between t (x ∷ xs) few = by (entry_keys-between t xs (few_later t x xs few)) (in_index t x.0.0 x.1 (few_first t x xs few)) (x.0.0 == t) refl
  where
    by : map key_of (filter (range_contains entry_cmp (Included (entry_of t 0)) (Included (entry_of t 4095))) xs) ≡ entry_keys t xs → range_contains entry_cmp (Included (entry_of t 0)) (Included (entry_of t 4095)) x ≡ (x.0.0 == t) → (r : Bool) → (x.0.0 == t) ≡ r → map key_of (filter (range_contains entry_cmp (Included (entry_of t 0)) (Included (entry_of t 4095))) (x ∷ xs)) ≡ entry_keys t (x ∷ xs)
    by rest within true h = rw (within, h) (ap (λ (ys : List ℕ). x.1 ∷ ys) rest)
    by rest within false h = rw (within, h) rest

any-entry_keys : (t q : ℕ) (ks : List Entry) → list_any (is_at (nat_cmp q)) (entry_keys t ks) ≡ list_any (is_at (entry_cmp (entry_of t q))) ks
any-entry_keys t q [] = refl
any-entry_keys t q (x ∷ xs) = grind (arith, nat_tests, any-entry_keys t q xs, at_entry t q x.0.0 x.1)

any-keys_of_version : (t q : ℕ) (rows : List Row) → list_any (is_at (nat_cmp q)) (keys_of_version rows t) ≡ is_some (looked rows q t)
unfolding keys_of_version looked
any-keys_of_version t q [] = refl
any-keys_of_version t q (r ∷ rs) = grind (arith, nat_tests, any-keys_of_version t q rs)

above-entry_keys : (t : ℕ) (x : Entry) (xs : List Entry) → x.0.0 ≡ t → AllByRecursion (λ y. entry_cmp x y ≡ Less) xs → AllByRecursion (λ y. nat_cmp x.1 y ≡ Less) (entry_keys t xs)
above-entry_keys t x [] e h = tt
above-entry_keys t x (y ∷ ys) e h = by (above-entry_keys t x ys e h.1) (y.0.0 == t) refl
  where
    by : AllByRecursion (λ z. nat_cmp x.1 z ≡ Less) (entry_keys t ys) → (r : Bool) → (y.0.0 == t) ≡ r → AllByRecursion (λ z. nat_cmp x.1 z ≡ Less) (entry_keys t (y ∷ ys))
    by rest true f = let less : nat_cmp x.1 y.1 ≡ Less = grind (arith, nat_tests, h.0, e, f) in rw f (less, rest)
    by rest false f = rw f rest

sorted-entry_keys : (t : ℕ) (ks : List Entry) → IsStrictlySortedBy entry_cmp ks → IsStrictlySortedBy nat_cmp (entry_keys t ks)
unfolding IsStrictlySortedBy
sorted-entry_keys t [] h = tt
sorted-entry_keys t (x ∷ xs) h = by (sorted-entry_keys t xs h.1) (λ e. above-entry_keys t x xs e h.0) (x.0.0 == t) refl
  where
    by : IsStrictlySortedBy nat_cmp (entry_keys t xs) → (x.0.0 ≡ t → AllByRecursion (λ y. nat_cmp x.1 y ≡ Less) (entry_keys t xs)) → (r : Bool) → (x.0.0 == t) ≡ r → IsStrictlySortedBy nat_cmp (entry_keys t (x ∷ xs))
    by rest above true f = rw f (above (grind (arith, nat_tests, f)), rest)
    by rest above false f = rw f rest

abbrev set_of : List ℕ → BTreeSet ℕ
set_of ks = record { keys = ks }

-- what the index has for a version are the keys of its rows
pub keys_of_version-between : (t : ℕ) (ks : List Entry) (rows : List Row) → IsStrictlySortedBy entry_cmp ks → AreOrdered rows → ((q : ℕ) → list_any (is_at (entry_cmp (entry_of t q))) ks ≡ is_some (looked rows q t)) → Few t ks → map key_of (filter (range_contains entry_cmp (Included (entry_of t 0)) (Included (entry_of t 4095))) ks) ≡ keys_of_version rows t
keys_of_version-between t ks rows ks_sorted ordered indexed few =
    entry_keys-between t ks few ∙ btree_set_from_contains nat_cmp_total (set_of (entry_keys t ks)) (set_of (keys_of_version rows t)) (sorted-entry_keys t ks ks_sorted) (keys_of_version-sorted rows t ordered) (λ q. any-entry_keys t q ks ∙ indexed q ∙ sym (any-keys_of_version t q rows)) exact_unsigned

-- ---- changes
abbrev pub Index : Type 0
Index = BTreeSet Entry

-- the index has the version and the key of each row and no others
abbrev pub IsIndexOf : List Row → Index → Type 0
IsIndexOf rows index = (k t : ℕ) → sorted.contains entry_cmp index (entry_of t k) ≡ is_some (looked rows k t)

abbrev pub IsRanged : Index → Type 0
IsRanged index = (k t : ℕ) → sorted.contains entry_cmp index (entry_of t k) ≡ true → k < 4096

at_own : (k t : ℕ) → is_at (entry_cmp (entry_of t k)) (entry_of t k) ≡ true
at_own k t = grind (arith, nat_tests)

at_other : (k t j u : ℕ) → (k ≡ j → t ≡ u → ⊥) → is_at (entry_cmp (entry_of t k)) (entry_of u j) ≡ false
at_other k t j u apart = grind (arith, nat_tests, apart)

pub index_of_none : (index : Index) → index.keys ≡ [] → IsIndexOf [] index × IsRanged index
unfolding looked
index_of_none index e = (λ k t. rw e refl, λ k t h. absurd (no k t h))
  where
    no : (k t : ℕ) → sorted.contains entry_cmp index (entry_of t k) ≡ true → ⊥
    no k t h = let none : sorted.contains entry_cmp index (entry_of t k) ≡ false = rw e refl in cc

-- a row that was not there, and its entry
pub index_entered : (rows : List Row) (index now : Index) (k t : ℕ) (v : List ℕ) → IsIndexOf rows index → looked rows k t ≡ None → sorted.Updates entry_cmp index now (entry_of t k) true → IsIndexOf (put_row rows k t v) now
index_entered rows index now k t v indexed absent updates j u = elim (placed k t j u) [
  | inl a ↦
      let bare : IsBare rows k t = rw absent tt in
      let there = updates.0 (entry_of t k) ∙ rw (at_own k t) refl in
      rw (← a.0, ← a.1) (there ∙ sym (ap is_some (looked-put_bare rows k t v bare)))
  | inr a ↦ updates.0 (entry_of u j) ∙ rw (at_other k t j u a) (indexed j u ∙ ap is_some (sym (looked-put_other rows k t v j u a)))
]

pub ranged_entered : (index now : Index) (k t : ℕ) → IsRanged index → k < 4096 → sorted.Updates entry_cmp index now (entry_of t k) true → IsRanged now
ranged_entered index now k t ranged within updates j u there = elim (placed k t j u) [
  | inl a ↦ subst (λ (n : ℕ). n < 4096) a.0 within
  | inr a ↦ ranged j u (rw (at_other k t j u a) at (sym (updates.0 (entry_of u j)) ∙ there))
]

-- a bare row and its entry go
pub index_left : (rows : List Row) (index now : Index) (k t : ℕ) → IsIndexOf rows index → AreOrdered rows → IsBare rows k t → sorted.Updates entry_cmp index now (entry_of t k) false → IsIndexOf (without_bare rows k t) now
index_left rows index now k t indexed ordered bare updates j u = elim (placed k t j u) [
  | inl a ↦
      let gone = updates.0 (entry_of t k) ∙ rw (at_own k t) refl in
      rw (← a.0, ← a.1) (gone ∙ sym (ap is_some (without_bare_gone rows k t ordered bare)))
  | inr a ↦ updates.0 (entry_of u j) ∙ rw (at_other k t j u a) (indexed j u ∙ ap is_some (sym (looked-without_other rows k t j u a)))
]

pub ranged_left : (index now : Index) (k t : ℕ) → IsRanged index → sorted.Updates entry_cmp index now (entry_of t k) false → IsRanged now
ranged_left index now k t ranged updates j u there = elim (placed k t j u) [
  | inl a ↦
      let gone : sorted.contains entry_cmp now (entry_of t k) ≡ false = updates.0 (entry_of t k) ∙ rw (at_own k t) refl in
      let still : sorted.contains entry_cmp now (entry_of t k) ≡ true = rw (a.0, a.1) there in
      absurd (cc)
  | inr a ↦ ranged j u (rw (at_other k t j u a) at (sym (updates.0 (entry_of u j)) ∙ there))
]

-- a value that is put again changes no entry
pub index_put_again : (rows : List Row) (index : Index) (k t : ℕ) (v : List ℕ) → IsIndexOf rows index → IsBare rows k t → IsSome (looked rows k t) → IsIndexOf (put_row rows k t v) index
index_put_again rows index k t v indexed bare there j u = elim (placed k t j u) [
  | inl a ↦ rw (← a.0, ← a.1) (indexed k t ∙ there ∙ sym (ap is_some (looked-put_bare rows k t v bare)))
  | inr a ↦ indexed j u ∙ ap is_some (sym (looked-put_other rows k t v j u a))
]

-- nor does a shadow
pub index_shadow : (rows : List Row) (index : Index) (k t c : ℕ) → IsIndexOf rows index → IsIndexOf (with_shadow rows k t c) index
index_shadow rows index k t c indexed j u = indexed j u ∙ sym (is_some-shadow rows k t c j u)

-- a set with the keys of another says what it says
pub index_same : (rows : List Row) (index now : Index) → IsIndexOf rows index → now.keys ≡ index.keys → IsIndexOf rows now
index_same rows index now indexed e k t = ap (list_any (is_at (entry_cmp (entry_of t k)))) e ∙ indexed k t

pub ranged_same : (index now : Index) → IsRanged index → now.keys ≡ index.keys → IsRanged now
ranged_same index now ranged e k t there = ranged k t (sym (ap (list_any (is_at (entry_cmp (entry_of t k)))) e) ∙ there)
