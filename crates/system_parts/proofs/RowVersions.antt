-- For isolation_laws and cell_store too.
-- Laws that other crates cite: the keys of a version's rows, and what a removal leaves at its own place.
use Rattle.std.proofs.Common.{◌≡◌, ℕ, ◌==◌, nat_eq, true, false, ◌↔◌, List, [], ◌∷◌, Option, Some, None, is_some, IsSome, ◌⊎◌, inl, inr, refl, sym, ◌∙◌, arith}
use Rattle.std.specs.Ordering.{nat_cmp}
use Rattle.std.specs.declared.cmp.Ordering.TheVariants.{Less}
use Rattle.std.specs.List.{Contains, AllByRecursion, list_any}
use Rattle.std.specs.List.Sorted.{IsStrictlySortedBy, IsStrictlyIncreasing}
use Rattle.std.proofs.lemmas.Bool.{cases_eq, eqb-true}
use Rattle.std.proofs.lemmas.Bool.Decides.{nat_tests}
use Rattle.std.proofs.lemmas.Cmp.{nat_eq_equiv}
use Rattle.std.proofs.lemmas.Map.Views.{list_any-from_Contains, Contains-from_any}
use Rattle.std.proofs.lemmas.Map.Keys.{IsStrictlyIncreasing-from_sorted}
use Rattle.system_parts.specs.declared.rows.Cell.{Cell}
use Rattle.system_parts.specs.Rows.{Row, looked, unless_bare, put_row, without_bare, keys_of_version, IsBare, IsBelowAll, AreOrdered}
use Rattle.system_parts.proofs.RowLaws.{is_row-cases, looked-past, below_none}

version_cases : (r : Row) (t : ℕ) → (((r.version == t) ≡ true) × (r.version ≡ t)) ⊎ (((r.version == t) ≡ false) × (r.version ≡ t → ⊥))
version_cases r t = elim (cases_eq r.version t) [
  | inl a ↦ inl (grind (arith, nat_tests), a)
  | inr a ↦ inr (grind (arith, nat_tests), a)
]

any_key : (rs : List Row) (k t : ℕ) → list_any (nat_eq k) (keys_of_version rs t) ≡ is_some (looked rs k t)
unfolding keys_of_version looked
any_key [] k t = refl
any_key (r ∷ rs) k t = grind (arith, nat_tests, any_key rs k t)

-- the keys of the version are those that are looked up
pub Contains-keys_of_version : (rs : List Row) (k t : ℕ) → (Contains (keys_of_version rs t) k ↔ IsSome (looked rs k t))
Contains-keys_of_version rs k t = (
  λ there. sym (any_key rs k t) ∙ list_any-from_Contains nat_eq_equiv k (keys_of_version rs t) there,
  λ found. Contains-from_any {eq = nat_eq} eqb-true k (keys_of_version rs t) (any_key rs k t ∙ found),
)

-- the later keys of the version are above the row's key
above_key : (r : Row) (rs : List Row) (t : ℕ) → r.version ≡ t → IsBelowAll r rs → AllByRecursion (λ k. nat_cmp r.key k ≡ Less) (keys_of_version rs t)
unfolding keys_of_version IsBelowAll
above_key r [] t same below = tt
above_key r (x ∷ xs) t same below = elim (version_cases x t) [
  | inl a ↦
      let less : nat_cmp r.key x.key ≡ Less = grind (arith, nat_tests, below.0, same, a.1) in
      rw a.0 (less, above_key r xs t same below.1)
  | inr a ↦ rw a.0 (above_key r xs t same below.1)
]

pub keys_of_version-sorted : (rs : List Row) (t : ℕ) → AreOrdered rs → IsStrictlySortedBy nat_cmp (keys_of_version rs t)
unfolding keys_of_version AreOrdered IsStrictlySortedBy
keys_of_version-sorted [] t ordered = tt
keys_of_version-sorted (r ∷ rs) t ordered = elim (version_cases r t) [
  | inl a ↦ rw a.0 (above_key r rs t a.1 ordered.0, keys_of_version-sorted rs t ordered.1)
  | inr a ↦ rw a.0 (keys_of_version-sorted rs t ordered.1)
]

pub keys_of_version-ascend : (rs : List Row) (t : ℕ) → AreOrdered rs → IsStrictlyIncreasing (keys_of_version rs t)
keys_of_version-ascend rs t ordered = IsStrictlyIncreasing-from_sorted (keys_of_version rs t) (keys_of_version-sorted rs t ordered)

-- ---- what a removal leaves at its own place
-- a row that is not there is not removed
pub without_bare_absent : (rs : List Row) (k t : ℕ) → looked rs k t ≡ None → without_bare rs k t ≡ rs
unfolding without_bare looked
without_bare_absent [] k t absent = refl
without_bare_absent (r ∷ rs) k t absent = grind (arith, nat_tests, without_bare_absent rs k t)

-- nor is a row with a shadow
pub without_bare_shadowed : (rs : List Row) (k t c : ℕ) (cell : Cell) → looked rs k t ≡ Some cell → cell.shadow ≡ Some c → without_bare rs k t ≡ rs
unfolding without_bare looked
without_bare_shadowed [] k t c cell found shadowed = refl
without_bare_shadowed (r ∷ rs) k t c cell found shadowed = grind (arith, nat_tests, without_bare_shadowed rs k t c cell)

-- a row that is put where none was is taken away again by a removal
pub without_bare-put_row : (rs : List Row) (k t : ℕ) (v : List ℕ) → looked rs k t ≡ None → without_bare (put_row rs k t v) k t ≡ rs
unfolding without_bare put_row looked
without_bare-put_row [] k t v absent = grind (arith, nat_tests)
without_bare-put_row (r ∷ rs) k t v absent = grind (arith, nat_tests, without_bare-put_row rs k t v)

-- a bare row is gone
below_gone : (r : Row) (rs : List Row) (k t : ℕ) → IsBelowAll r rs → r.key ≡ k → r.version ≡ t → looked rs k t ≡ None
below_gone r rs k t below a b = by (looked rs k t) refl
  where
    by : (found : Option Cell) → looked rs k t ≡ found → looked rs k t ≡ None
    by None e = e
    by (Some cell) e = absurd (below_none r rs k t cell below a b e)

unless_gone : (r : Row) (rs : List Row) (k t : ℕ) (shadow : Option ℕ) → shadow ≡ None → looked rs k t ≡ None → looked (unless_bare r shadow rs) k t ≡ None
unless_gone r rs k t None e gone = gone
unless_gone r rs k t (Some c) e gone = absurd (cc)

pub without_bare_gone : (rs : List Row) (k t : ℕ) → AreOrdered rs → IsBare rs k t → looked (without_bare rs k t) k t ≡ None
unfolding without_bare looked AreOrdered
without_bare_gone [] k t ordered bare = refl
without_bare_gone (r ∷ rs) k t ordered bare = elim (is_row-cases k t r) [
  | inl a ↦ rw a.0 (unless_gone r rs k t r.shadow (rw a.0 at bare) (below_gone r rs k t ordered.0 a.1 a.2))
  | inr a ↦ rw a.0 (looked-past r (without_bare rs k t) k t a.1 ∙ without_bare_gone rs k t ordered.1 (rw a.0 at bare))
]
