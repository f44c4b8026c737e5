-- For this crate's own proofs.
-- In rows that ascend, what stands among them is what a look finds, so that a key and a version name one row.
use Rattle.std.proofs.Common.{◌≡◌, ℕ, ◌<◌, ◌⊎◌, List, [], ◌∷◌, inl, inr, ⊎_elim, refl, sym, ap, ◌∙◌, subst, arith}
use Rattle.std.specs.Prelude.{Some}
use Rattle.std.proofs.lemmas.Option.{same_Some}
use Rattle.history_book.specs.Members.{◌∈◌}
use Rattle.system_parts.specs.declared.rows.Cell.{Cell}
use Rattle.system_parts.specs.Rows.{Row, cell_of, looked, IsBelowAll, AreOrdered}
use Rattle.system_parts.proofs.RowLaws.{is_row-cases, looked-here, looked-past, none_looked}
use Rattle.system_parts.specs.Pairs.{Pairs}
use Rattle.cell_compaction.specs.Rest.{with_commit, with_commits}

abbrev pub StandsBefore : Row → Row → Type 0
StandsBefore r x = (r.key < x.key) ⊎ ((r.key ≡ x.key) × (r.version < x.version))

below_member : (r x : Row) (rs : List Row) → IsBelowAll r rs → x ∈ rs → StandsBefore r x
unfolding IsBelowAll ◌∈◌
below_member r x [] below has = absurd has
below_member r x (y ∷ ys) below has = ⊎_elim (λ (e : x ≡ y). subst (StandsBefore r) (sym e) below.0) (below_member r x ys below.1) has

pub member_looked : (r : Row) (rs : List Row) → AreOrdered rs → r ∈ rs → looked rs r.key r.version ≡ Some (cell_of r)
unfolding AreOrdered ◌∈◌
member_looked r [] ordered has = absurd has
member_looked r (x ∷ xs) ordered has =
    ⊎_elim (λ (e : r ≡ x). looked-here x xs r.key r.version (ap (λ (y : Row). y.key) (sym e)) (ap (λ (y : Row). y.version) (sym e)) ∙ ap (λ y. Some (cell_of y)) (sym e))
    (λ (later : r ∈ xs). looked-past x xs r.key r.version (λ key version. ⊎_elim (λ (lt : x.key < r.key). omega (arith, key)) (λ (p : (x.key ≡ r.key) × (x.version < r.version)). (let q = p.1 in omega (arith, version))) (below_member x r xs ordered.0 later)) ∙ member_looked r xs ordered.1 later) has

-- a cell that is found is that of a row
pub record IsRowOf (rs : List Row) (k t : ℕ) (cell : Cell) : Type 0 where
  pub row : Row
  pub has : row ∈ rs
  pub key : row.key ≡ k
  pub version : row.version ≡ t
  pub cell_is : cell_of row ≡ cell

pub looked_member : (rs : List Row) (k t : ℕ) (cell : Cell) → looked rs k t ≡ Some cell → IsRowOf rs k t cell
unfolding ◌∈◌
looked_member [] k t cell found = absurd (none_looked k t cell found)
looked_member (r ∷ rs) k t cell found = elim (is_row-cases k t r) [
  | inl here ↦ record { row = r; has = inl refl; key = here.1; version = here.2; cell_is = same_Some (cell_of r) cell (sym (looked-here r rs k t here.1 here.2) ∙ found) }
  | inr there ↦ let more = looked_member rs k t cell (sym (looked-past r rs k t there.1) ∙ found) in
      record { row = more.row; has = inr more.has; key = more.key; version = more.version; cell_is = more.cell_is }
]

-- a key and a version name one row
pub one_row : (r x : Row) (rs : List Row) → AreOrdered rs → r ∈ rs → x ∈ rs → r.key ≡ x.key → r.version ≡ x.version → r ≡ x
one_row r x rs ordered one other key version =
    let found : looked rs r.key r.version ≡ Some (cell_of r) = member_looked r rs ordered one in
    let again : looked rs r.key r.version ≡ Some (cell_of x) = ap (looked rs r.key) version ∙ ap (λ k. looked rs k x.version) key ∙ member_looked x rs ordered other in
    let same = same_Some (cell_of r) (cell_of x) (sym found ∙ again) in
    λ i. record { key = key i; version = version i; value = (same i).value; shadow = (same i).shadow }

-- ---- rows with their commits
pub filled_member : (pairs : Pairs) (r : Row) (rs : List Row) → r ∈ rs → with_commit pairs r ∈ with_commits pairs rs
unfolding ◌∈◌
filled_member pairs r [] has = has
filled_member pairs r (x ∷ xs) has = ⊎_elim (λ (e : r ≡ x). inl (ap (with_commit pairs) e)) (λ later. inr (filled_member pairs r xs later)) has

pub record IsFilledOf (pairs : Pairs) (rs : List Row) (x : Row) : Type 0 where
  pub row : Row
  pub has : row ∈ rs
  pub filled : x ≡ with_commit pairs row

pub filled_from : (pairs : Pairs) (x : Row) (rs : List Row) → x ∈ with_commits pairs rs → IsFilledOf pairs rs x
unfolding ◌∈◌
filled_from pairs x [] has = absurd has
filled_from pairs x (r ∷ rs) has = ⊎_elim (λ (e : x ≡ with_commit pairs r). record { row = r; has = inl refl; filled = e })
    (λ later. let more = filled_from pairs x rs later in record { row = more.row; has = inr more.has; filled = more.filled }) has

filled_below : (pairs : Pairs) (r : Row) (rs : List Row) → IsBelowAll r rs → IsBelowAll (with_commit pairs r) (with_commits pairs rs)
unfolding IsBelowAll
filled_below pairs r [] below = below
filled_below pairs r (x ∷ xs) below = (below.0, filled_below pairs r xs below.1)

pub filled_ordered : (pairs : Pairs) (rs : List Row) → AreOrdered rs → AreOrdered (with_commits pairs rs)
unfolding AreOrdered
filled_ordered pairs [] ordered = ordered
filled_ordered pairs (r ∷ rs) ordered = (filled_below pairs r rs ordered.0, filled_ordered pairs rs ordered.1)
