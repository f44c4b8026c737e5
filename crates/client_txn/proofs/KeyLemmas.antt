-- For event_parts too.
-- A push to a list of keys as the definitions say it. For the sets of keys that `event_parts` keeps too.
use Rattle.std.proofs.Common.{◌≡◌, ℕ, ◌≤◌, nat_lt, nat_eq, Bool, true, false, ◌||◌, List, [], ◌∷◌, ◌++◌, None, Some, Contains, length, refl, ap, ◌∙◌, arith, length-append}
use Rattle.std.specs.List.{list_any}
use Rattle.std.proofs.lemmas.Bool.{eqb-true, le-leb}
use Rattle.std.proofs.lemmas.Cmp.{nat_eq_equiv}
use Rattle.std.proofs.lemmas.Map.Views.{Contains-from_any, list_any-from_Contains}
use Rattle.history_book.specs.declared.cause.Cause.TheVariants.{TooManyKeys}
use Rattle.system_parts.specs.SessionSteps.{has_key, key_added, key_refusal}

flipped : (xs : List ℕ) (y : ℕ) → list_any (nat_eq y) xs ≡ has_key xs y
flipped [] y = refl
flipped (x ∷ xs) y = ap (λ b. b || list_any (nat_eq y) xs) (nat_eq_equiv.symm y x) ∙ ap (λ b. nat_eq x y || b) (flipped xs y)

contains_key : (xs : List ℕ) (y : ℕ) → has_key xs y ≡ true → Contains xs y
contains_key xs y e = Contains-from_any eqb-true y xs (flipped xs y ∙ e)

lacks_key : (xs : List ℕ) (y : ℕ) → has_key xs y ≡ false → Contains xs y → ⊥
lacks_key xs y e h = let there : list_any (nat_eq y) xs ≡ true = list_any-from_Contains nat_eq_equiv y xs h in let also : list_any (nat_eq y) xs ≡ false = flipped xs y ∙ e in cc

pushed_by : (keys new : List ℕ) (key : ℕ) (there : Bool) → has_key keys key ≡ there → (Contains keys key → new ≡ keys) → ((Contains keys key → ⊥) → new ≡ keys ++ key ∷ []) → length new ≤ 64 → (key_refusal keys key ≡ None) × (new ≡ key_added keys key)
pushed_by keys new key true e same more room = rw e (refl, same (contains_key keys key e))
pushed_by keys new key false e same more room =
    let added : new ≡ keys ++ key ∷ [] = more (lacks_key keys key e) in
    let few : length (keys ++ key ∷ []) ≤ 64 = rw added at room in
    let below : nat_lt (length keys) 64 ≡ true = le-leb _ _ (omega (arith, length-append keys (key ∷ []))) in
    rw (e, below) (refl, added)

-- a key that was taken in
pub pushed : (keys new : List ℕ) (key : ℕ) → (Contains keys key → new ≡ keys) → ((Contains keys key → ⊥) → new ≡ keys ++ key ∷ []) → length new ≤ 64 → (key_refusal keys key ≡ None) × (new ≡ key_added keys key)
pushed keys new key = pushed_by keys new key (has_key keys key) refl

refused_by : (keys : List ℕ) (key : ℕ) (there : Bool) → has_key keys key ≡ there → length keys ≡ 64 → (Contains keys key → ⊥) → key_refusal keys key ≡ Some TooManyKeys
refused_by keys key true e full other = absurd (other (contains_key keys key e))
refused_by keys key false e full other = rw (e, full) refl

-- a key that was refused
pub refused : (keys : List ℕ) (key : ℕ) → length keys ≡ 64 → (Contains keys key → ⊥) → key_refusal keys key ≡ Some TooManyKeys
refused keys key = refused_by keys key (has_key keys key) refl
