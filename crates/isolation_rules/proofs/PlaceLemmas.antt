-- For read_sets and si_judge too.
-- Public laws, which the judge above cites. Places in a list, and what stands before one.
use Rattle.std.proofs.Common.{◌≡◌, ◌≤◌, ◌<◌, ℕ, zero, suc, List, [], ◌∷◌, Option, Some, None, length, take, slice_get, IsSomeAnd, inl, inr, refl, sym, ap, subst, arith}
use Rattle.std.proofs.lemmas.Option.{same_Some}
use Rattle.history_book.specs.Members.{◌∈◌}

pub some_and : {X : Type 0} (o : Option X) (P : X → Type 0) → IsSomeAnd o P → (x : X) × (o ≡ Some x) × P x
some_and None P h = absurd h
some_and (Some x) P h = (x, refl, h)

pub and_some : {X : Type 0} (o : Option X) (P : X → Type 0) (x : X) → o ≡ Some x → P x → IsSomeAnd o P
and_some {X} o P x e h = subst (λ (s : Option X). IsSomeAnd s P) (sym e) h

pub place_of : {X : Type 0} (x : X) (xs : List X) → x ∈ xs → (p : ℕ) × (slice_get xs p ≡ Some x)
unfolding ◌∈◌
place_of x [] m = absurd m
place_of x (y ∷ xs) m = elim m [ inl e ↦ (zero, ap Some (sym e)) | inr deeper ↦ let found = place_of x xs deeper in (suc found.0, found.1) ]

pub place_in_take : {X : Type 0} (x : X) (n : ℕ) (xs : List X) → x ∈ take n xs → (p : ℕ) × (p < n) × (slice_get xs p ≡ Some x)
unfolding ◌∈◌
place_in_take x zero xs m = absurd m
place_in_take x (suc n) [] m = absurd m
place_in_take x (suc n) (y ∷ xs) m = elim m [ inl e ↦ (zero, omega arith, ap Some (sym e)) | inr deeper ↦ let found = place_in_take x n xs deeper in (suc found.0, omega (arith, found.1), found.2) ]

pub in_take : {X : Type 0} (x : X) (n : ℕ) (xs : List X) (p : ℕ) → slice_get xs p ≡ Some x → p < n → x ∈ take n xs
unfolding ◌∈◌
in_take x zero xs p e less = absurd (omega arith)
in_take x (suc n) [] p e less = absurd (cc)
in_take x (suc n) (y ∷ xs) zero e less = inl (sym (same_Some _ _ e))
in_take x (suc n) (y ∷ xs) (suc p) e less = inr (in_take x n xs p e (omega arith))

pub slice_get_take : {X : Type 0} (x : X) (n : ℕ) (xs : List X) (p : ℕ) → slice_get xs p ≡ Some x → p < n → slice_get (take n xs) p ≡ Some x
slice_get_take x zero xs p e less = absurd (omega arith)
slice_get_take x (suc n) [] p e less = e
slice_get_take x (suc n) (y ∷ xs) zero e less = e
slice_get_take x (suc n) (y ∷ xs) (suc p) e less = slice_get_take x n xs p e (omega arith)

pub slice_get_taken : {X : Type 0} (x : X) (n : ℕ) (xs : List X) (p : ℕ) → slice_get (take n xs) p ≡ Some x → slice_get xs p ≡ Some x
slice_get_taken x zero xs p e = absurd (cc)
slice_get_taken x (suc n) [] p e = e
slice_get_taken x (suc n) (y ∷ xs) zero e = e
slice_get_taken x (suc n) (y ∷ xs) (suc p) e = slice_get_taken x n xs p e

pub length_take_within : {X : Type 0} (n : ℕ) (xs : List X) → length (take n xs) ≤ n
length_take_within zero xs = omega arith
length_take_within (suc n) [] = omega arith
length_take_within (suc n) (y ∷ xs) = let deeper = length_take_within n xs in omega (arith, deeper)

pub one_at : {X : Type 0} (h : List X) (i : ℕ) (P : X → Type 0) → IsSomeAnd (slice_get h i) (λ x. P x) → (x : X) × (slice_get h i ≡ Some x) × P x
one_at h i P is = some_and (slice_get h i) P is

pub both_at : {X : Type 0} (h : List X) (i j : ℕ) (P : X → X → Type 0) → IsSomeAnd (slice_get h i) (λ x. IsSomeAnd (slice_get h j) (λ y. P x y)) → (x : X) × (y : X) × (slice_get h i ≡ Some x) × (slice_get h j ≡ Some y) × P x y
both_at h i j P are =
    let first = some_and (slice_get h i) (λ x. IsSomeAnd (slice_get h j) (λ y. P x y)) are in
    let second = some_and (slice_get h j) (λ y. P first.0 y) first.2 in
    (first.0, second.0, first.1, second.1, second.2)
