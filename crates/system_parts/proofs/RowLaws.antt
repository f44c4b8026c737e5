-- For isolation_laws, cell_store and cell_compaction too.
-- Laws that other crates cite: what a look finds after a put, a shadow or a removal, and that each keeps the rows' order.
use Rattle.std.proofs.Common.{◌≡◌, ℕ, ◌<◌, true, false, List, [], ◌∷◌, Option, Some, None, IfSome, ◌⊎◌, inl, inr, refl, sym, subst, ap, ◌∙◌, arith}
use Rattle.std.proofs.lemmas.Bool.{cases_Bool, cases_eq}
use Rattle.std.proofs.lemmas.Bool.Decides.{nat_tests}
use Rattle.std.proofs.lemmas.Option.{none-some, same_Some}
use Rattle.system_parts.specs.declared.rows.Cell.{Cell}
use Rattle.system_parts.specs.Rows.{Row, is_row, cell_of, bare_row, bare_cell, is_before, put_row, looked, with_shadow, unless_bare, without_bare, IsBare, IsBelowAll, AreOrdered}
pub use Rattle.system_parts.specs.Rows.{shadowed}

-- the row is, or is not, the one of the key and the version
pub is_row-cases : (k t : ℕ) (r : Row) → ((is_row k t r ≡ true) × (r.key ≡ k) × (r.version ≡ t)) ⊎ ((is_row k t r ≡ false) × (r.key ≡ k → r.version ≡ t → ⊥))
is_row-cases k t r = elim (cases_eq r.key k) [
  | inl a ↦ elim (cases_eq r.version t) [
    | inl b ↦ inl (grind (arith, nat_tests), a, b)
    | inr b ↦ inr (grind (arith, nat_tests), λ p q. b q)
  ]
  | inr a ↦ inr (grind (arith, nat_tests), λ p q. a p)
]

pub is_row-true : (k t : ℕ) (r : Row) → r.key ≡ k → r.version ≡ t → is_row k t r ≡ true
is_row-true k t r a b = grind (arith, nat_tests)

pub is_row-false : (k t : ℕ) (r : Row) → (r.key ≡ k → r.version ≡ t → ⊥) → is_row k t r ≡ false
is_row-false k t r ne = elim (is_row-cases k t r) [ inl a ↦ absurd (ne a.1 a.2) | inr a ↦ a.0 ]

pub looked-here : (r : Row) (rs : List Row) (k t : ℕ) → r.key ≡ k → r.version ≡ t → looked (r ∷ rs) k t ≡ Some (cell_of r)
unfolding looked
looked-here r rs k t a b = rw (is_row-true k t r a b) refl

pub looked-past : (r : Row) (rs : List Row) (k t : ℕ) → (r.key ≡ k → r.version ≡ t → ⊥) → looked (r ∷ rs) k t ≡ looked rs k t
unfolding looked
looked-past r rs k t ne = rw (is_row-false k t r ne) refl

-- a put changes no other cell
pub looked-put_other : (rs : List Row) (k t : ℕ) (v : List ℕ) (j u : ℕ) → (k ≡ j → t ≡ u → ⊥) → looked (put_row rs k t v) j u ≡ looked rs j u
unfolding put_row
looked-put_other [] k t v j u ne = looked-past (bare_row k t v) [] j u ne
looked-put_other (r ∷ rs) k t v j u ne = elim (is_row-cases k t r) [
  | inl a ↦ let other : r.key ≡ j → r.version ≡ u → ⊥ = λ p q. ne (sym a.1 ∙ p) (sym a.2 ∙ q) in
      rw a.0 (looked-past (record r { value = v }) rs j u other ∙ sym (looked-past r rs j u other))
  | inr a ↦ elim (cases_Bool (is_before r k t)) [
    | inl b ↦ elim (is_row-cases j u r) [
      | inl c ↦ rw (a.0, b) (looked-here r (put_row rs k t v) j u c.1 c.2 ∙ sym (looked-here r rs j u c.1 c.2))
      | inr c ↦ rw (a.0, b) (looked-past r (put_row rs k t v) j u c.1 ∙ looked-put_other rs k t v j u ne ∙ sym (looked-past r rs j u c.1))
    ]
    | inr b ↦ rw (a.0, b) (looked-past (bare_row k t v) (r ∷ rs) j u ne)
  ]
]

-- a put where no shadow is leaves a bare cell with the value
pub looked-put_same : (rs : List Row) (k t : ℕ) (v : List ℕ) → ((cell : Cell) → looked rs k t ≡ Some cell → cell.shadow ≡ None) → looked (put_row rs k t v) k t ≡ Some (record { version = t; value = v; shadow = None })
unfolding put_row
looked-put_same [] k t v bare = looked-here (bare_row k t v) [] k t refl refl
looked-put_same (r ∷ rs) k t v bare = elim (is_row-cases k t r) [
  | inl a ↦ let none : r.shadow ≡ None = bare (cell_of r) (looked-here r rs k t a.1 a.2) in
      let now : cell_of (record r { value = v }) ≡ (let c : Cell = record { version = t; value = v; shadow = None } in c) = rw (a.2, none) refl in
      rw a.0 (looked-here (record r { value = v }) rs k t a.1 a.2 ∙ ap Some now)
  | inr a ↦ elim (cases_Bool (is_before r k t)) [
    | inl b ↦ rw (a.0, b) (looked-past r (put_row rs k t v) k t a.1 ∙ looked-put_same rs k t v (λ cell e. bare cell (looked-past r rs k t a.1 ∙ e)))
    | inr b ↦ rw (a.0, b) (looked-here (bare_row k t v) (r ∷ rs) k t refl refl)
  ]
]

pub looked-shadow_other : (rs : List Row) (k t c j u : ℕ) → (k ≡ j → t ≡ u → ⊥) → looked (with_shadow rs k t c) j u ≡ looked rs j u
unfolding with_shadow
looked-shadow_other [] k t c j u ne = refl
looked-shadow_other (r ∷ rs) k t c j u ne = elim (is_row-cases k t r) [
  | inl a ↦ let other : r.key ≡ j → r.version ≡ u → ⊥ = λ p q. ne (sym a.1 ∙ p) (sym a.2 ∙ q) in
      rw a.0 (looked-past (record r { shadow = Some c }) rs j u other ∙ sym (looked-past r rs j u other))
  | inr a ↦ elim (is_row-cases j u r) [
    | inl b ↦ rw a.0 (looked-here r (with_shadow rs k t c) j u b.1 b.2 ∙ sym (looked-here r rs j u b.1 b.2))
    | inr b ↦ rw a.0 (looked-past r (with_shadow rs k t c) j u b.1 ∙ looked-shadow_other rs k t c j u ne ∙ sym (looked-past r rs j u b.1))
  ]
]

pub looked-shadow_same : (rs : List Row) (k t c : ℕ) → looked (with_shadow rs k t c) k t ≡ shadowed c (looked rs k t)
unfolding with_shadow looked
looked-shadow_same [] k t c = refl
looked-shadow_same (r ∷ rs) k t c = elim (is_row-cases k t r) [
  | inl a ↦ rw a.0 (rw (is_row-true k t (record r { shadow = Some c }) a.1 a.2) refl)
  | inr a ↦ rw a.0 (rw a.0 (looked-shadow_same rs k t c))
]

-- the same, as a fact of the rows
pub looked-put_bare : (rs : List Row) (k t : ℕ) (v : List ℕ) → IsBare rs k t → looked (put_row rs k t v) k t ≡ Some (bare_cell t v)
looked-put_bare rs k t v bare = looked-put_same rs k t v (λ cell e. subst (λ (found : Option Cell). IfSome found (λ c. c.shadow ≡ None)) e bare)

pub none_looked : (k t : ℕ) (cell : Cell) → looked [] k t ≡ Some cell → ⊥
unfolding looked
none_looked k t cell e = none-some _ e

-- a row that stands before all of these is none of them
pub below_none : (r : Row) (rs : List Row) (k t : ℕ) (cell : Cell) → IsBelowAll r rs → r.key ≡ k → r.version ≡ t → looked rs k t ≡ Some cell → ⊥
unfolding looked IsBelowAll
below_none r [] k t cell below a b e = none-some _ e
below_none r (x ∷ rs) k t cell below a b e =
    let other : x.key ≡ k → x.version ≡ t → ⊥ = λ p q. elim below.0 [ inl l ↦ absurd (omega arith) | inr l ↦ let up = l.1 in absurd (omega arith) ] in
    below_none r rs k t cell below.1 a b (sym (looked-past x rs k t other) ∙ e)

-- a row of one of these keys is above the one that stands before them
pub below_version : (r : Row) (rs : List Row) (k t : ℕ) (cell : Cell) → IsBelowAll r rs → r.key ≡ k → looked rs k t ≡ Some cell → r.version < t
unfolding IsBelowAll
below_version r [] k t cell below a e = absurd (none_looked k t cell e)
below_version r (x ∷ rs) k t cell below a e = elim (is_row-cases k t x) [
  | inl b ↦ let key = b.1 in let version = b.2 in elim below.0 [ inl l ↦ absurd (omega arith) | inr l ↦ let up = l.1 in omega arith ]
  | inr b ↦ below_version r rs k t cell below.1 a (sym (looked-past x rs k t b.1) ∙ e)
]

after_row : (r : Row) (rs : List Row) (j u : ℕ) (cell : Cell) → IsBelowAll r rs → looked rs j u ≡ Some cell → looked (r ∷ rs) j u ≡ Some cell
after_row r rs j u cell below e = elim (is_row-cases j u r) [
  | inl b ↦ absurd (below_none r rs j u cell below b.1 b.2 e)
  | inr b ↦ looked-past r rs j u b.1 ∙ e
]

removed : (r : Row) (rs : List Row) (j u : ℕ) (cell : Cell) → IsBelowAll r rs → (shadow : Option ℕ) → looked (unless_bare r shadow rs) j u ≡ Some cell → looked (r ∷ rs) j u ≡ Some cell
removed r rs j u cell below None e = after_row r rs j u cell below e
removed r rs j u cell below (Some c) e = e

-- what is there after a bare row was removed was there before
pub looked-without : (rs : List Row) (k t j u : ℕ) (cell : Cell) → AreOrdered rs → looked (without_bare rs k t) j u ≡ Some cell → looked rs j u ≡ Some cell
unfolding without_bare AreOrdered
looked-without [] k t j u cell order e = e
looked-without (r ∷ rs) k t j u cell order e = elim (is_row-cases k t r) [
  | inl a ↦ removed r rs j u cell order.0 r.shadow (rw a.0 at e)
  | inr a ↦ let there : looked (r ∷ without_bare rs k t) j u ≡ Some cell = rw a.0 at e in
      elim (is_row-cases j u r) [
        | inl b ↦ looked-here r rs j u b.1 b.2 ∙ sym (looked-here r (without_bare rs k t) j u b.1 b.2) ∙ there
        | inr b ↦ looked-past r rs j u b.1 ∙ looked-without rs k t j u cell order.1 (sym (looked-past r (without_bare rs k t) j u b.1) ∙ there)
      ]
]

unless_other : (r : Row) (rs : List Row) (j u : ℕ) → (r.key ≡ j → r.version ≡ u → ⊥) → (shadow : Option ℕ) → looked (unless_bare r shadow rs) j u ≡ looked (r ∷ rs) j u
unless_other r rs j u ne None = sym (looked-past r rs j u ne)
unless_other r rs j u ne (Some c) = refl

pub looked-without_other : (rs : List Row) (k t j u : ℕ) → (k ≡ j → t ≡ u → ⊥) → looked (without_bare rs k t) j u ≡ looked rs j u
unfolding without_bare
looked-without_other [] k t j u ne = refl
looked-without_other (r ∷ rs) k t j u ne = elim (is_row-cases k t r) [
  | inl a ↦ rw a.0 (unless_other r rs j u (λ p q. ne (sym a.1 ∙ p) (sym a.2 ∙ q)) r.shadow)
  | inr a ↦ elim (is_row-cases j u r) [
    | inl b ↦ rw a.0 (looked-here r (without_bare rs k t) j u b.1 b.2 ∙ sym (looked-here r rs j u b.1 b.2))
    | inr b ↦ rw a.0 (looked-past r (without_bare rs k t) j u b.1 ∙ looked-without_other rs k t j u ne ∙ sym (looked-past r rs j u b.1))
  ]
]

-- the row stands before all rows after a put, if it stands before all of them and before the put's place
below-put : (r : Row) (rs : List Row) (k t : ℕ) (v : List ℕ) → IsBelowAll r rs → ((r.key < k) ⊎ ((r.key ≡ k) × (r.version < t))) → IsBelowAll r (put_row rs k t v)
unfolding put_row IsBelowAll
below-put r [] k t v below first = (first, tt)
below-put r (x ∷ rs) k t v below first = elim (is_row-cases k t x) [
  | inl a ↦ rw a.0 (below.0, below.1)
  | inr a ↦ elim (cases_Bool (is_before x k t)) [
    | inl b ↦ rw (a.0, b) (below.0, below-put r rs k t v below.1 first)
    | inr b ↦ rw (a.0, b) (first, (below.0, below.1))
  ]
]

-- the place of a row that is there stands before all rows that the row stands before
below_all-trans : (a b : Row) (rs : List Row) → ((a.key < b.key) ⊎ ((a.key ≡ b.key) × (a.version < b.version))) → IsBelowAll b rs → IsBelowAll a rs
unfolding IsBelowAll
below_all-trans a b [] first below = tt
below_all-trans a b (x ∷ rs) first below = (grind (arith, first, below.0), below_all-trans a b rs first below.1)

-- the order reads the key and the version alone
below-same : (a b : Row) (rs : List Row) → a.key ≡ b.key → a.version ≡ b.version → IsBelowAll a rs → IsBelowAll b rs
unfolding IsBelowAll
below-same a b [] p q below = tt
below-same a b (x ∷ rs) p q below = (rw (← p, ← q) below.0, below-same a b rs p q below.1)

below_front : (a b : Row) (rs : List Row) → ((a.key < b.key) ⊎ ((a.key ≡ b.key) × (a.version < b.version))) → IsBelowAll b rs → IsBelowAll a (b ∷ rs)
unfolding IsBelowAll
below_front a b rs first below = (first, below_all-trans a b rs first below)

none_below : (k t : ℕ) (v : List ℕ) → IsBelowAll (bare_row k t v) []
unfolding IsBelowAll
none_below k t v = tt

before-true : (r : Row) (k t : ℕ) → is_before r k t ≡ true → ((r.key < k) ⊎ ((r.key ≡ k) × (r.version < t)))
before-true r k t e = elim (cases_eq r.key k) [
  | inl a ↦ inr (a, grind (arith, nat_tests))
  | inr a ↦ inl (grind (arith, nat_tests))
]

before-false : (r : Row) (k t : ℕ) → is_before r k t ≡ false → (r.key ≡ k → r.version ≡ t → ⊥) → ((k < r.key) ⊎ ((k ≡ r.key) × (t < r.version)))
before-false r k t e ne = elim (cases_eq r.key k) [
  | inl a ↦ elim (cases_eq r.version t) [
    | inl b ↦ absurd (ne a b)
    | inr b ↦ inr (sym a, grind (arith, nat_tests))
  ]
  | inr a ↦ inl (grind (arith, nat_tests))
]

pub ordered-put : (rs : List Row) (k t : ℕ) (v : List ℕ) → AreOrdered rs → AreOrdered (put_row rs k t v)
unfolding put_row AreOrdered
ordered-put [] k t v order = (none_below k t v, tt)
ordered-put (r ∷ rs) k t v order = elim (is_row-cases k t r) [
  | inl a ↦ rw a.0 (below-same r (record r { value = v }) rs refl refl order.0, order.1)
  | inr a ↦ elim (cases_Bool (is_before r k t)) [
    | inl b ↦ rw (a.0, b) (below-put r rs k t v order.0 (before-true r k t b), ordered-put rs k t v order.1)
    | inr b ↦ let first = before-false r k t b a.1 in
        rw (a.0, b) (below_front (bare_row k t v) r rs first order.0, (order.0, order.1))
  ]
]

below-shadow : (r : Row) (rs : List Row) (k t c : ℕ) → IsBelowAll r rs → IsBelowAll r (with_shadow rs k t c)
unfolding with_shadow IsBelowAll
below-shadow r [] k t c below = tt
below-shadow r (x ∷ rs) k t c below = elim (is_row-cases k t x) [
  | inl a ↦ rw a.0 (below.0, below.1)
  | inr a ↦ rw a.0 (below.0, below-shadow r rs k t c below.1)
]

pub ordered-shadow : (rs : List Row) (k t c : ℕ) → AreOrdered rs → AreOrdered (with_shadow rs k t c)
unfolding with_shadow AreOrdered
ordered-shadow [] k t c order = tt
ordered-shadow (r ∷ rs) k t c order = elim (is_row-cases k t r) [
  | inl a ↦ rw a.0 (below-same r (record r { shadow = Some c }) rs refl refl order.0, order.1)
  | inr a ↦ rw a.0 (below-shadow r rs k t c order.0, ordered-shadow rs k t c order.1)
]

below-unless : (r x : Row) (rs : List Row) (shadow : Option ℕ) → IsBelowAll r (x ∷ rs) → IsBelowAll r (unless_bare x shadow rs)
unfolding IsBelowAll
below-unless r x rs None below = below.1
below-unless r x rs (Some c) below = below

below-without : (r : Row) (rs : List Row) (k t : ℕ) → IsBelowAll r rs → IsBelowAll r (without_bare rs k t)
unfolding without_bare IsBelowAll
below-without r [] k t below = tt
below-without r (x ∷ rs) k t below = elim (is_row-cases k t x) [
  | inl a ↦ rw a.0 (below-unless r x rs x.shadow (below.0, below.1))
  | inr a ↦ rw a.0 (below.0, below-without r rs k t below.1)
]

ordered-unless : (x : Row) (rs : List Row) (shadow : Option ℕ) → AreOrdered (x ∷ rs) → AreOrdered (unless_bare x shadow rs)
unfolding AreOrdered
ordered-unless x rs None order = order.1
ordered-unless x rs (Some c) order = order

pub ordered-without : (rs : List Row) (k t : ℕ) → AreOrdered rs → AreOrdered (without_bare rs k t)
unfolding without_bare AreOrdered
ordered-without [] k t order = tt
ordered-without (r ∷ rs) k t order = elim (is_row-cases k t r) [
  | inl a ↦ rw a.0 (ordered-unless r rs r.shadow (order.0, order.1))
  | inr a ↦ rw a.0 (below-without r rs k t order.0, ordered-without rs k t order.1)
]

pub looked-version : (rs : List Row) (k t : ℕ) (cell : Cell) → looked rs k t ≡ Some cell → cell.version ≡ t
looked-version [] k t cell e = absurd (none_looked k t cell e)
looked-version (r ∷ rs) k t cell e = elim (is_row-cases k t r) [
  | inl a ↦ let is : cell_of r ≡ cell = same_Some _ _ (sym (looked-here r rs k t a.1 a.2) ∙ e) in ap (λ (c : Cell). c.version) (sym is) ∙ a.2
  | inr a ↦ looked-version rs k t cell (sym (looked-past r rs k t a.1) ∙ e)
]
