-- One more at the end of a list.
use Rattle.std.proofs.Common.{◌≡◌, ℕ, zero, suc, ◌⊎◌, List, [], ◌∷◌, ◌++◌, Some, slice_get, inl, inr, refl}
use Rattle.std.proofs.lemmas.Option.{same_Some}

pub get_push_cases : {X : Type 0} (xs : List X) (y : X) (i : ℕ) (x : X) → slice_get (xs ++ y ∷ []) i ≡ Some x → (slice_get xs i ≡ Some x) ⊎ (y ≡ x)
get_push_cases [] y zero x e = inr (same_Some y x e)
get_push_cases [] y (suc i) x e = absurd (cc)
get_push_cases (z ∷ zs) y zero x e = inl e
get_push_cases (z ∷ zs) y (suc i) x e = get_push_cases zs y i x e

pub get_push_old : {X : Type 0} (xs : List X) (y : X) (i : ℕ) (x : X) → slice_get xs i ≡ Some x → slice_get (xs ++ y ∷ []) i ≡ Some x
get_push_old [] y i x e = absurd (cc)
get_push_old (z ∷ zs) y zero x e = e
get_push_old (z ∷ zs) y (suc i) x e = get_push_old zs y i x e

pub get_push_new : {X : Type 0} (xs : List X) (y : X) → (i : ℕ) × (slice_get (xs ++ y ∷ []) i ≡ Some y)
get_push_new [] y = (0, refl)
get_push_new (z ∷ zs) y = let more = get_push_new zs y in (suc more.0, more.1)
