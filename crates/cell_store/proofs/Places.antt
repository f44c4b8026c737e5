-- A row by its key and its version, and what a change of one row means for another.
use Rattle.std.proofs.Common.{◌≡◌, ℕ, List, Option, None, Some, is_some, ◌⊎◌, inl, inr, refl, ap, ◌∙◌}
use Rattle.std.proofs.lemmas.Bool.{cases_eq}
use Rattle.system_parts.specs.declared.rows.Cell.{Cell}
use Rattle.system_parts.specs.Rows.{Row, looked, shadowed, with_shadow}
use Rattle.system_parts.proofs.RowLaws.{looked-shadow_same, looked-shadow_other}

-- a place is the one of the key and the version, or another
pub placed : (k t j u : ℕ) → ((k ≡ j) × (t ≡ u)) ⊎ (k ≡ j → t ≡ u → ⊥)
placed k t j u = elim (cases_eq k j) [
  | inl a ↦ elim (cases_eq t u) [ inl b ↦ inl (a, b) | inr b ↦ inr (λ p q. b q) ]
  | inr a ↦ inr (λ p q. a p)
]

is_some-shadowed : (c : ℕ) (found : Option Cell) → is_some (shadowed c found) ≡ is_some found
is_some-shadowed c None = refl
is_some-shadowed c (Some cell) = refl

-- a shadow adds and removes no row
pub is_some-shadow : (rows : List Row) (k t c j u : ℕ) → is_some (looked (with_shadow rows k t c) j u) ≡ is_some (looked rows j u)
is_some-shadow rows k t c j u = elim (placed k t j u) [
  | inl a ↦ rw (← a.0, ← a.1) (ap is_some (looked-shadow_same rows k t c) ∙ is_some-shadowed c (looked rows k t))
  | inr a ↦ ap is_some (looked-shadow_other rows k t c j u a)
]
