-- For isolation_laws and cell_store too.
-- Laws that other crates cite: what a fetch gives of rows in order, and of rows one behind another.
use Rattle.std.proofs.Common.{◌≡◌, ℕ, zero, suc, ◌<◌, ◌≤◌, ◌==◌, nat_le, true, false, ◌&&◌, ◌↔◌, List, [], ◌∷◌, ◌++◌, append-nil, append_assoc, Some, ◌⊎◌, inl, inr, sym, subst, ap, ◌∙◌, arith}
use Rattle.std.specs.List.{All, AllPairs, Contains}
use Rattle.std.proofs.lemmas.Bool.{cases_Bool}
use Rattle.std.proofs.lemmas.Bool.Decides.{nat_tests}
use Rattle.std.proofs.lemmas.List.Elements.{All-nil, All-contains, All-cons, All-head, All-tail, All-push, Contains-append_left, Contains-push, Contains-push_cases}
use Rattle.std.proofs.lemmas.List.Quantifiers.{all_pairs_push}
use Rattle.std.proofs.lemmas.Option.{same_Some}
use Rattle.system_parts.specs.declared.rows.Cell.{Cell}
use Rattle.system_parts.specs.Rows.{Row, cell_of, fetched, looked, is_below, front_of, IsBelowAll, AreOrdered, AreFalling, AreUpto}
use Rattle.system_parts.proofs.RowLaws.{is_row-cases, looked-here, looked-past, below_none, none_looked}

-- the row is a fetched one, or it is not
row_cases : (r : Row) (k upto : ℕ) → ((((r.key == k) && nat_le r.version upto) ≡ true) × (r.key ≡ k) × (r.version ≤ upto)) ⊎ ((((r.key == k) && nat_le r.version upto) ≡ false) × (r.key ≡ k → r.version ≤ upto → ⊥))
row_cases r k upto = elim (cases_Bool ((r.key == k) && nat_le r.version upto)) [
  | inl a ↦ inl (a, grind (arith, nat_tests, a), grind (arith, nat_tests, a))
  | inr a ↦ inr (a, λ same within. grind (arith, nat_tests, a, same, within))
]

pub fetched-upto : (rs : List Row) (k upto : ℕ) → AreUpto upto (fetched rs k upto)
unfolding fetched
fetched-upto [] k upto = All-nil (λ (c : Cell). c.version ≤ upto)
fetched-upto (r ∷ rs) k upto = elim (row_cases r k upto) [
  | inl a ↦ rw a.0 (All-push (λ (c : Cell). c.version ≤ upto) (fetched rs k upto) (cell_of r) (fetched-upto rs k upto) a.2)
  | inr a ↦ rw a.0 (fetched-upto rs k upto)
]

-- the versions of rows that stand behind a row of the key are above it
fetched-above : (r : Row) (rs : List Row) (k upto : ℕ) → IsBelowAll r rs → r.key ≡ k → All (λ (c : Cell). r.version < c.version) (fetched rs k upto)
unfolding fetched IsBelowAll
fetched-above r [] k upto below same = All-nil (λ (c : Cell). r.version < c.version)
fetched-above r (x ∷ xs) k upto below same = elim (row_cases x k upto) [
  | inl a ↦
      let above : r.version < x.version = grind (arith, below.0, same, a.1) in
      rw a.0 (All-push (λ (c : Cell). r.version < c.version) (fetched xs k upto) (cell_of x) (fetched-above r xs k upto below.1 same) above)
  | inr a ↦ rw a.0 (fetched-above r xs k upto below.1 same)
]

pub fetched-falls : (rs : List Row) (k upto : ℕ) → AreOrdered rs → AreFalling (fetched rs k upto)
unfolding fetched AreOrdered
fetched-falls [] k upto ordered = λ i j d less there. absurd (omega arith)
fetched-falls (r ∷ rs) k upto ordered = elim (row_cases r k upto) [
  | inl a ↦
      let above = fetched-above r rs k upto ordered.0 a.1 in
      rw a.0 (all_pairs_push (λ (c : Cell) (d : Cell). d.version < c.version) (fetched rs k upto) (cell_of r) (fetched-falls rs k upto ordered.1) above)
  | inr a ↦ rw a.0 (fetched-falls rs k upto ordered.1)
]

-- what is fetched is looked up
fetched-looked : (rs : List Row) (k upto : ℕ) (cell : Cell) → AreOrdered rs → Contains (fetched rs k upto) cell → looked rs k cell.version ≡ Some cell
unfolding fetched AreOrdered
fetched-looked [] k upto cell ordered there = absurd (omega (arith, there.1))
fetched-looked (r ∷ rs) k upto cell ordered there = elim (row_cases r k upto) [
  | inl a ↦ elim (Contains-push_cases (fetched rs k upto) (cell_of r) cell (rw a.0 at there)) [
    | inl b ↦ kept r rs k cell ordered.0 (fetched-looked rs k upto cell ordered.1 b)
    | inr b ↦ looked-here r rs k cell.version a.1 (ap (λ (c : Cell). c.version) b) ∙ ap Some b
  ]
  | inr a ↦ kept r rs k cell ordered.0 (fetched-looked rs k upto cell ordered.1 (rw a.0 at there))
]
  where
    kept : (r : Row) (rs : List Row) (k : ℕ) (cell : Cell) → IsBelowAll r rs → looked rs k cell.version ≡ Some cell → looked (r ∷ rs) k cell.version ≡ Some cell
    kept r rs k cell below e = elim (is_row-cases k cell.version r) [
      | inl b ↦ absurd (below_none r rs k cell.version cell below b.1 b.2 e)
      | inr b ↦ looked-past r rs k cell.version b.1 ∙ e
    ]

-- what is looked up is fetched
looked-fetched : (rs : List Row) (k t upto : ℕ) (cell : Cell) → looked rs k t ≡ Some cell → t ≤ upto → Contains (fetched rs k upto) cell
unfolding fetched
looked-fetched [] k t upto cell found within = absurd (none_looked k t cell found)
looked-fetched (r ∷ rs) k t upto cell found within = elim (is_row-cases k t r) [
  | inl a ↦
      let same : cell_of r ≡ cell = same_Some _ _ (sym (looked-here r rs k t a.1 a.2) ∙ found) in
      elim (row_cases r k upto) [
        | inl b ↦ rw (b.0, same) (Contains-push (fetched rs k upto) cell)
        | inr b ↦ absurd (b.1 a.1 (subst (λ (n : ℕ). n ≤ upto) (sym a.2) within))
      ]
  | inr a ↦
      let there = looked-fetched rs k t upto cell (sym (looked-past r rs k t a.1) ∙ found) within in
      elim (row_cases r k upto) [
        | inl b ↦ rw b.0 (Contains-append_left (fetched rs k upto) (cell_of r ∷ []) cell there)
        | inr b ↦ rw b.0 there
      ]
]

-- exactly what is looked up, up to the version, is fetched
pub Contains-fetched : (rs : List Row) (k upto : ℕ) (cell : Cell) → AreOrdered rs → (Contains (fetched rs k upto) cell ↔ ((looked rs k cell.version ≡ Some cell) × (cell.version ≤ upto)))
Contains-fetched rs k upto cell ordered = (
  λ there. (fetched-looked rs k upto cell ordered there, All-contains (λ (c : Cell). c.version ≤ upto) (fetched rs k upto) cell (fetched-upto rs k upto) there),
  λ h. looked-fetched rs k cell.version upto cell h.0 h.1,
)

-- the cells of rows that stand behind come first
pub fetched-append : (xs ys : List Row) (k upto : ℕ) → fetched (xs ++ ys) k upto ≡ fetched ys k upto ++ fetched xs k upto
unfolding fetched
fetched-append [] ys k upto = sym (append-nil (fetched ys k upto))
fetched-append (x ∷ xs) ys k upto = elim (row_cases x k upto) [
  | inl a ↦ rw a.0 (ap (λ (cs : List Cell). cs ++ cell_of x ∷ []) (fetched-append xs ys k upto) ∙ append_assoc (fetched ys k upto) (fetched xs k upto) (cell_of x ∷ []))
  | inr a ↦ rw a.0 (fetched-append xs ys k upto)
]

-- ---- the front
pub front-all : (P : Cell → Type 0) (start : ℕ) (cells : List Cell) → All P cells → All P (front_of start cells)
unfolding front_of
front-all P start [] all = all
front-all P start (c ∷ cs) all = elim (cases_Bool (is_below start c.shadow)) [
  | inl a ↦ rw a (All-cons P c [] (All-head P c cs all) (All-nil P))
  | inr a ↦ rw a (All-cons P c (front_of start cs) (All-head P c cs all) (front-all P start cs (All-tail P c cs all)))
]

pairs_head : (R : Cell → Cell → Type 0) (c : Cell) (cs : List Cell) → AllPairs R (c ∷ cs) → All (R c) cs
pairs_head R c cs pairs = λ i d there. pairs 0 (suc i) d (omega arith) (omega arith)

pairs_tail : (R : Cell → Cell → Type 0) (c : Cell) (cs : List Cell) → AllPairs R (c ∷ cs) → AllPairs R cs
pairs_tail R c cs pairs = λ i j d less there. pairs (suc i) (suc j) d (omega arith) (omega arith)

-- one more cell in front
pub all_pairs_cons : (R : Cell → Cell → Type 0) (c : Cell) (cs : List Cell) → All (R c) cs → AllPairs R cs → AllPairs R (c ∷ cs)
all_pairs_cons R c cs head tail zero zero d less there = absurd (omega arith)
all_pairs_cons R c cs head tail zero (suc j) d less there = head j d (omega arith)
all_pairs_cons R c cs head tail (suc i) zero d less there = absurd (omega arith)
all_pairs_cons R c cs head tail (suc i) (suc j) d less there = tail i j d (omega arith) (omega arith)

pub front-falls : (start : ℕ) (cells : List Cell) → AreFalling cells → AreFalling (front_of start cells)
unfolding front_of
front-falls start [] falling = falling
front-falls start (c ∷ cs) falling = elim (cases_Bool (is_below start c.shadow)) [
  | inl a ↦ rw a (λ i j d less there. absurd (omega arith))
  | inr a ↦
      let R : Cell → Cell → Type 0 = λ x y. y.version < x.version in
      rw a (all_pairs_cons R c (front_of start cs) (front-all (R c) start cs (pairs_head R c cs falling)) (front-falls start cs (pairs_tail R c cs falling)))
]
