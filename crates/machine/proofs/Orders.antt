-- For isolation_laws too.
-- Numbers in order, and the greater of two.
use Rattle.std.proofs.Common.{ℕ, ◌<◌, ◌≤◌, ◌≡◌, ◌⊎◌, max, arith}

pub three_ways : (p q : ℕ) → (p < q) ⊎ ((p ≡ q) ⊎ (q < p))
three_ways p q = grind arith

pub max_left : (a b : ℕ) → a ≤ max a b
max_left a b = grind arith

pub max_right : (a b : ℕ) → b ≤ max a b
max_right a b = grind arith

pub max_within : (a b c : ℕ) → a ≤ c → b ≤ c → max a b ≤ c
max_within a b c low high = grind arith
