-- Rows one behind another: where a change lands, and where a question is answered.
use Rattle.std.proofs.Common.{◌≡◌, ℕ, ◌<◌, ◌==◌, nat_le, true, false, ◌&&◌, List, [], ◌∷◌, ◌++◌, Option, Some, None, ◌⊎◌, inl, inr, refl, ap, ◌∙◌, arith}
use Rattle.std.specs.List.{AllByRecursion}
use Rattle.std.proofs.lemmas.Bool.{cases_Bool}
use Rattle.std.proofs.lemmas.Bool.Decides.{nat_tests}
use Rattle.std.proofs.lemmas.List.{append-nil}
use Rattle.system_parts.specs.declared.rows.Cell.{Cell}
use Rattle.system_parts.specs.Rows.{Row, is_row, is_before, bare_row, put_row, fetched, looked, with_shadow, unless_bare, without_bare, IsBelowAll, AreOrdered}
use Rattle.system_parts.proofs.RowFetches.{fetched-append}

-- the row stands before the place of the key and the version, or behind it
abbrev pub IsEarlier : ℕ → ℕ → Row → Type 0
IsEarlier k t r = (r.key < k) ⊎ ((r.key ≡ k) × (r.version < t))

abbrev pub IsLater : ℕ → ℕ → Row → Type 0
IsLater k t r = (k < r.key) ⊎ ((k ≡ r.key) × (t < r.version))

-- a change at the place of a key and a version leaves the rows before it and behind it
pub record IsEditAt (k t : ℕ) (edit : List Row → List Row) : Type 0 where
  pub past : (xs ys : List Row) → AllByRecursion (IsEarlier k t) xs → edit (xs ++ ys) ≡ xs ++ edit ys
  pub within : (xs ys : List Row) → AllByRecursion (IsLater k t) ys → edit (xs ++ ys) ≡ edit xs ++ ys

-- a question about one key is answered by its rows
pub record IsAskedOf {X : Type 0} (k : ℕ) (ask : List Row → X) : Type 0 where
  pub past : (xs ys : List Row) → AllByRecursion (λ (r : Row). r.key < k) xs → ask (xs ++ ys) ≡ ask ys
  pub within : (xs ys : List Row) → AllByRecursion (λ (r : Row). k < r.key) ys → ask (xs ++ ys) ≡ ask xs

pub earlier_apart : (k t : ℕ) (r : Row) → IsEarlier k t r → is_row k t r ≡ false
earlier_apart k t r h = grind (arith, nat_tests, h)

earlier_before : (k t : ℕ) (r : Row) → IsEarlier k t r → is_before r k t ≡ true
earlier_before k t r h = grind (arith, nat_tests, h)

pub later_apart : (k t : ℕ) (r : Row) → IsLater k t r → is_row k t r ≡ false
later_apart k t r h = grind (arith, nat_tests, h)

later_behind : (k t : ℕ) (r : Row) → IsLater k t r → is_before r k t ≡ false
later_behind k t r h = grind (arith, nat_tests, h)

-- nothing is changed
pub nothing_is_edit : (k t : ℕ) → IsEditAt k t (λ rs. rs)
nothing_is_edit k t = record { past = λ xs ys h. refl; within = λ xs ys h. refl }

-- ---- a put
put-past : (k t : ℕ) (v : List ℕ) (xs ys : List Row) → AllByRecursion (IsEarlier k t) xs → put_row (xs ++ ys) k t v ≡ xs ++ put_row ys k t v
unfolding put_row
put-past k t v [] ys h = refl
put-past k t v (x ∷ xs) ys h = rw (earlier_apart k t x h.0, earlier_before k t x h.0) (ap (λ (rs : List Row). x ∷ rs) (put-past k t v xs ys h.1))

pub put-behind : (k t : ℕ) (v : List ℕ) (ys : List Row) → AllByRecursion (IsLater k t) ys → put_row ys k t v ≡ bare_row k t v ∷ ys
unfolding put_row
put-behind k t v [] h = refl
put-behind k t v (y ∷ ys) h = rw (later_apart k t y h.0, later_behind k t y h.0) refl

put-within : (k t : ℕ) (v : List ℕ) (xs ys : List Row) → AllByRecursion (IsLater k t) ys → put_row (xs ++ ys) k t v ≡ put_row xs k t v ++ ys
unfolding put_row
put-within k t v [] ys h = put-behind k t v ys h
put-within k t v (x ∷ xs) ys h = elim (cases_Bool (is_row k t x)) [
  | inl a ↦ rw a refl
  | inr a ↦ elim (cases_Bool (is_before x k t)) [
    | inl b ↦ rw (a, b) (ap (λ (rs : List Row). x ∷ rs) (put-within k t v xs ys h))
    | inr b ↦ rw (a, b) refl
  ]
]

pub put_is_edit : (k t : ℕ) (v : List ℕ) → IsEditAt k t (λ rs. put_row rs k t v)
put_is_edit k t v = record { past = put-past k t v; within = put-within k t v }

-- ---- a shadow
shadow-past : (k t c : ℕ) (xs ys : List Row) → AllByRecursion (IsEarlier k t) xs → with_shadow (xs ++ ys) k t c ≡ xs ++ with_shadow ys k t c
unfolding with_shadow
shadow-past k t c [] ys h = refl
shadow-past k t c (x ∷ xs) ys h = rw (earlier_apart k t x h.0) (ap (λ (rs : List Row). x ∷ rs) (shadow-past k t c xs ys h.1))

shadow-behind : (k t c : ℕ) (ys : List Row) → AllByRecursion (IsLater k t) ys → with_shadow ys k t c ≡ ys
unfolding with_shadow
shadow-behind k t c [] h = refl
shadow-behind k t c (y ∷ ys) h = rw (later_apart k t y h.0) (ap (λ (rs : List Row). y ∷ rs) (shadow-behind k t c ys h.1))

shadow-within : (k t c : ℕ) (xs ys : List Row) → AllByRecursion (IsLater k t) ys → with_shadow (xs ++ ys) k t c ≡ with_shadow xs k t c ++ ys
unfolding with_shadow
shadow-within k t c [] ys h = shadow-behind k t c ys h
shadow-within k t c (x ∷ xs) ys h = elim (cases_Bool (is_row k t x)) [
  | inl a ↦ rw a refl
  | inr a ↦ rw a (ap (λ (rs : List Row). x ∷ rs) (shadow-within k t c xs ys h))
]

pub shadow_is_edit : (k t c : ℕ) → IsEditAt k t (λ rs. with_shadow rs k t c)
shadow_is_edit k t c = record { past = shadow-past k t c; within = shadow-within k t c }

pub shadow_absent : (rs : List Row) (k t c : ℕ) → looked rs k t ≡ None → with_shadow rs k t c ≡ rs
unfolding looked with_shadow
shadow_absent [] k t c absent = refl
shadow_absent (r ∷ rs) k t c absent = grind (arith, nat_tests, shadow_absent rs k t c)

-- ---- a removal
without-past : (k t : ℕ) (xs ys : List Row) → AllByRecursion (IsEarlier k t) xs → without_bare (xs ++ ys) k t ≡ xs ++ without_bare ys k t
unfolding without_bare
without-past k t [] ys h = refl
without-past k t (x ∷ xs) ys h = rw (earlier_apart k t x h.0) (ap (λ (rs : List Row). x ∷ rs) (without-past k t xs ys h.1))

without-behind : (k t : ℕ) (ys : List Row) → AllByRecursion (IsLater k t) ys → without_bare ys k t ≡ ys
unfolding without_bare
without-behind k t [] h = refl
without-behind k t (y ∷ ys) h = rw (later_apart k t y h.0) (ap (λ (rs : List Row). y ∷ rs) (without-behind k t ys h.1))

unless-within : (r : Row) (shadow : Option ℕ) (xs ys : List Row) → unless_bare r shadow (xs ++ ys) ≡ unless_bare r shadow xs ++ ys
unless-within r None xs ys = refl
unless-within r (Some c) xs ys = refl

without-within : (k t : ℕ) (xs ys : List Row) → AllByRecursion (IsLater k t) ys → without_bare (xs ++ ys) k t ≡ without_bare xs k t ++ ys
unfolding without_bare
without-within k t [] ys h = without-behind k t ys h
without-within k t (x ∷ xs) ys h = elim (cases_Bool (is_row k t x)) [
  | inl a ↦ rw a (unless-within x x.shadow xs ys)
  | inr a ↦ rw a (ap (λ (rs : List Row). x ∷ rs) (without-within k t xs ys h))
]

pub without_is_edit : (k t : ℕ) → IsEditAt k t (λ rs. without_bare rs k t)
without_is_edit k t = record { past = without-past k t; within = without-within k t }

-- ---- a look
looked-past_all : (k t : ℕ) (xs ys : List Row) → AllByRecursion (λ (r : Row). is_row k t r ≡ false) xs → looked (xs ++ ys) k t ≡ looked ys k t
unfolding looked
looked-past_all k t [] ys h = refl
looked-past_all k t (x ∷ xs) ys h = rw h.0 (looked-past_all k t xs ys h.1)

pub looked-none : (k t : ℕ) (ys : List Row) → AllByRecursion (λ (r : Row). is_row k t r ≡ false) ys → looked ys k t ≡ None
unfolding looked
looked-none k t [] h = refl
looked-none k t (y ∷ ys) h = rw h.0 (looked-none k t ys h.1)

looked-within : (k t : ℕ) (xs ys : List Row) → AllByRecursion (λ (r : Row). is_row k t r ≡ false) ys → looked (xs ++ ys) k t ≡ looked xs k t
unfolding looked
looked-within k t [] ys h = looked-none k t ys h
looked-within k t (x ∷ xs) ys h = elim (cases_Bool (is_row k t x)) [
  | inl a ↦ rw a refl
  | inr a ↦ rw a (looked-within k t xs ys h)
]

apart_by : (P : Row → Type 0) (k t : ℕ) → ((r : Row) → P r → is_row k t r ≡ false) → (rs : List Row) → AllByRecursion P rs → AllByRecursion (λ (r : Row). is_row k t r ≡ false) rs
apart_by P k t f [] h = tt
apart_by P k t f (r ∷ rs) h = (f r h.0, apart_by P k t f rs h.1)

pub looked-earlier : (k t : ℕ) (xs ys : List Row) → AllByRecursion (IsEarlier k t) xs → looked (xs ++ ys) k t ≡ looked ys k t
looked-earlier k t xs ys h = looked-past_all k t xs ys (apart_by (IsEarlier k t) k t (earlier_apart k t) xs h)

pub looked-later : (k t : ℕ) (ys : List Row) → AllByRecursion (IsLater k t) ys → looked ys k t ≡ None
looked-later k t ys h = looked-none k t ys (apart_by (IsLater k t) k t (later_apart k t) ys h)

pub look_is_asked : (k t : ℕ) → IsAskedOf k (λ rs. looked rs k t)
look_is_asked k t = record {
  past = λ xs ys h. looked-past_all k t xs ys (apart_by (λ (r : Row). r.key < k) k t (λ r below. earlier_apart k t r (inl below)) xs h);
  within = λ xs ys h. looked-within k t xs ys (apart_by (λ (r : Row). k < r.key) k t (λ r above. later_apart k t r (inl above)) ys h);
}

-- ---- a fetch
fetched-other : (k upto : ℕ) (rs : List Row) → AllByRecursion (λ (r : Row). r.key ≡ k → ⊥) rs → fetched rs k upto ≡ []
unfolding fetched
fetched-other k upto [] h = refl
fetched-other k upto (r ∷ rs) h =
    let other = h.0 in
    let out : ((r.key == k) && nat_le r.version upto) ≡ false = grind (arith, nat_tests) in
    rw out (fetched-other k upto rs h.1)

other_by : (P : Row → Type 0) (k : ℕ) → ((r : Row) → P r → r.key ≡ k → ⊥) → (rs : List Row) → AllByRecursion P rs → AllByRecursion (λ (r : Row). r.key ≡ k → ⊥) rs
other_by P k f [] h = tt
other_by P k f (r ∷ rs) h = (f r h.0, other_by P k f rs h.1)

pub fetch_is_asked : (k upto : ℕ) → IsAskedOf k (λ rs. fetched rs k upto)
fetch_is_asked k upto = record {
  past = λ xs ys h. fetched-append xs ys k upto ∙ ap (λ (cs : List Cell). fetched ys k upto ++ cs) (fetched-other k upto xs (other_by (λ (r : Row). r.key < k) k (λ r below same. absurd (omega arith)) xs h)) ∙ append-nil (fetched ys k upto);
  within = λ xs ys h. fetched-append xs ys k upto ∙ ap (λ (cs : List Cell). cs ++ fetched xs k upto) (fetched-other k upto ys (other_by (λ (r : Row). k < r.key) k (λ r above same. absurd (omega arith)) ys h));
}

-- ---- the order
below-front : (r : Row) (xs ys : List Row) → IsBelowAll r (xs ++ ys) → IsBelowAll r xs
unfolding IsBelowAll
below-front r [] ys h = tt
below-front r (x ∷ xs) ys h = (h.0, below-front r xs ys h.1)

pub ordered-front : (xs ys : List Row) → AreOrdered (xs ++ ys) → AreOrdered xs
unfolding AreOrdered
ordered-front [] ys h = tt
ordered-front (x ∷ xs) ys h = (below-front x xs ys h.0, ordered-front xs ys h.1)

pub ordered-rest : (xs ys : List Row) → AreOrdered (xs ++ ys) → AreOrdered ys
unfolding AreOrdered
ordered-rest [] ys h = h
ordered-rest (x ∷ xs) ys h = ordered-rest xs ys h.1

pub nothing_ordered : AreOrdered []
unfolding AreOrdered
nothing_ordered = tt
