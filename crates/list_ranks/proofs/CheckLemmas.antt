-- Places that were looked at.
use Rattle.std.proofs.Common.{◌≡◌, ℕ, ◌+◌, ◌<◌, ◌⊎◌, subst, sym, inl, inr, arith}

one_less : (n m : ℕ) → n < m + 1 → (n < m) ⊎ (n ≡ m)
one_less n m less = grind (arith, less)

-- what holds of the places below one and of it holds of those below the next
pub below_next : (P : ℕ → Type 0) (place : ℕ) → ((i : ℕ) → i < place → P i) → P place → (i : ℕ) → i < place + 1 → P i
below_next P place before here i less = elim (one_less i place less) [
  | inl earlier ↦ before i earlier
  | inr same ↦ subst (λ (n : ℕ). P n) (sym same) here
]
