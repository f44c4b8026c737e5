-- For si_judge too.
-- Public laws, which the judge above cites. The last ask in a list, found from its end.
use Rattle.std.proofs.Common.{◌≡◌, ◌≤◌, ℕ, zero, suc, Bool, true, false, ◌||◌, not, if◌then◌else◌, List, [], ◌∷◌, Some, length, take, drop, slice_get, refl, ap, arith}
use Rattle.std.proofs.lemmas.Option.{same_Some}
use Rattle.history_book.specs.Isolation.{before_ask, has_ask, asks}
use Rattle.history_book.specs.declared.item.Item.{Item}

-- no ask from a place on, and none at the place before
pub no_ask_before : (s : ℕ) (xs : List Item) (p : ℕ) (x : Item) → slice_get xs p ≡ Some x → asks s x ≡ false → has_ask s (drop (suc p) xs) ≡ false → has_ask s (drop p xs) ≡ false
unfolding has_ask
no_ask_before s [] p x e off later = absurd (cc)
no_ask_before s (y ∷ xs) zero x e off later = let same : y ≡ x = same_Some _ _ e in rw (same, off) later
no_ask_before s (y ∷ xs) (suc p) x e off later = no_ask_before s xs p x e off later

without_ask : (s : ℕ) (y : Item) (xs : List Item) → has_ask s xs ≡ false → asks s y ≡ false → before_ask s xs ≡ xs → before_ask s (y ∷ xs) ≡ y ∷ xs
unfolding before_ask
without_ask s y xs none off whole = rw (none, off, whole) refl

or_false : (a b : Bool) → (a || b) ≡ false → (a ≡ false) × (b ≡ false)
or_false true b e = absurd (cc)
or_false false b e = (refl, e)

-- with no ask it is the whole list
pub before_no_ask : (s : ℕ) (xs : List Item) → has_ask s xs ≡ false → before_ask s xs ≡ xs
unfolding before_ask has_ask
before_no_ask s [] none = refl
before_no_ask s (y ∷ xs) none = let both = or_false (asks s y) (has_ask s xs) none in without_ask s y xs both.1 both.0 (before_no_ask s xs both.1)

or_right : (a b : Bool) → b ≡ true → (a || b) ≡ true
or_right true b e = refl
or_right false b e = e

-- the ask at p, with none after it, is the last
pub last_ask : (s : ℕ) (xs : List Item) (p : ℕ) (x : Item) → slice_get xs p ≡ Some x → asks s x ≡ true → has_ask s (drop (suc p) xs) ≡ false → (has_ask s xs ≡ true) × (length (before_ask s xs) ≡ p)
unfolding before_ask has_ask
last_ask s [] p x e on none = absurd (cc)
last_ask s (y ∷ xs) zero x e on none = let same : y ≡ x = same_Some _ _ e in (rw (same, on) refl, rw (none, same, on) refl)
last_ask s (y ∷ xs) (suc p) x e on none = let deeper = last_ask s xs p x e on none in (or_right (asks s y) (has_ask s xs) deeper.0, rw deeper.0 (ap suc deeper.1))

pub no_ask_past : (s : ℕ) (xs : List Item) → has_ask s (drop (length xs) xs) ≡ false
unfolding has_ask
no_ask_past s [] = refl
no_ask_past s (y ∷ xs) = no_ask_past s xs

length_chosen : (b : Bool) (y : Item) (front xs : List Item) → length front ≤ length xs → length (if b then y ∷ front else []) ≤ length (y ∷ xs)
length_chosen true y front xs e = omega arith
length_chosen false y front xs e = omega arith

-- the last ask stands in the list, or is its end
pub ask_within : (s : ℕ) (xs : List Item) → length (before_ask s xs) ≤ length xs
unfolding before_ask
ask_within s [] = omega arith
ask_within s (y ∷ xs) = length_chosen (has_ask s xs || not (asks s y)) y (before_ask s xs) xs (ask_within s xs)

take_chosen : (b : Bool) (y : Item) (front xs : List Item) → front ≡ take (length front) xs → (if b then y ∷ front else []) ≡ take (length (if b then y ∷ front else [])) (y ∷ xs)
take_chosen true y front xs e = ap (λ zs. y ∷ zs) e
take_chosen false y front xs e = refl

-- what stands before the last ask is the front of the list
pub before_ask-take : (s : ℕ) (xs : List Item) → before_ask s xs ≡ take (length (before_ask s xs)) xs
unfolding before_ask
before_ask-take s [] = refl
before_ask-take s (y ∷ xs) = take_chosen (has_ask s xs || not (asks s y)) y (before_ask s xs) xs (before_ask-take s xs)
