-- Membership in a list, and what holds at each of its places.
use Rattle.std.specs.Prelude.{◌≡◌, ℕ, List, [], ◌∷◌, Some, take, slice_get, ◌⊎◌}

infix 40 ◌∈◌
-- x stands in the list
unfoldable pub ◌∈◌ : {X : Type 0} → X → List X → Type 0
x ∈ [] = ⊥
x ∈ (y ∷ ys) = (x ≡ y) ⊎ (x ∈ ys)

-- P holds at each place, of the part before it and of what stands there
pub record AtEach {X : Type 0} (P : List X → X → Type 0) (xs : List X) : Type 0 where
  pub at : (place : ℕ) (x : X) → slice_get xs place ≡ Some x → P (take place xs) x
