-- Chains of no edges.
use Rattle.std.proofs.Common.{◌≡◌, ℕ, ◌<◌, ◌≤◌, ◌⊎◌, List, length, get_or, replicate, inl, inr, arith}
use Rattle.std.proofs.lemmas.List.{get_or-replicate, get_or_past, length-replicate}
use Rattle.rising_numbers.specs.declared.Edge.{Edge}
use Rattle.rising_numbers.specs.Walks.{Chained}

pub all_zero : (n v : ℕ) → ◌≡◌ {A = ℕ} (get_or (replicate n 0) v 0) 0
all_zero n v = elim (low_or_high v n) [
  | inl low ↦ get_or-replicate n v 0 0 low
  | inr high ↦ get_or_past (replicate n 0) v 0 (let l : length {A = ℕ} (replicate n 0) ≡ n = length-replicate n 0 in omega (arith, l, high))
]
  where
    low_or_high : (a b : ℕ) → (a < b) ⊎ (b ≤ a)
    low_or_high a b = grind arith

pub none_chained : (edges : List Edge) (n m : ℕ) → Chained edges (replicate n 0) (replicate m 0) 0
none_chained edges n m = record {
  head = λ place edge is low. absurd (omega (arith, low));
  between = λ p q a b at_p at_q same less low. absurd (omega (arith, low));
  head_leads = λ node place edge at is. let z = all_zero n node in absurd (omega (arith, z, at));
  next_leads = λ p q a b at_p at_q at. let z = all_zero m q in absurd (omega (arith, z, at));
  head_low = λ node. let z = all_zero n node in omega (arith, z);
  next_low = λ q. let z = all_zero m q in omega (arith, z);
}
