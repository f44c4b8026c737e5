-- For system_parts, cause_rules, isolation_rules and others above too.
-- What a list has after one more element.
use Rattle.std.proofs.Common.{◌≡◌, ℕ, zero, suc, ◌≤◌, List, [], ◌∷◌, ◌++◌, Some, length, take, slice_get, ◌⊎◌, inl, inr, refl, sym, subst, ap, ◌∙◌, arith}
use Rattle.std.proofs.lemmas.List.{take-append-le}
use Rattle.std.proofs.Math.Seq.{take-append_seam}
use Rattle.std.proofs.lemmas.Option.{slice_get_within, same_Some}
use Rattle.history_book.specs.Members.{◌∈◌, AtEach}

pub in_front : {X : Type 0} (x : X) (xs ys : List X) → x ∈ xs → x ∈ (xs ++ ys)
unfolding ◌∈◌
in_front x [] ys m = absurd m
in_front x (z ∷ xs) ys m = elim m [ inl e ↦ inl e | inr deeper ↦ inr (in_front x xs ys deeper) ]

pub in_back : {X : Type 0} (x : X) (xs ys : List X) → x ∈ ys → x ∈ (xs ++ ys)
unfolding ◌∈◌
in_back x [] ys m = m
in_back x (z ∷ xs) ys m = inr (in_back x xs ys m)

pub in_last : {X : Type 0} (x : X) (xs : List X) → x ∈ (xs ++ x ∷ [])
unfolding ◌∈◌
in_last x [] = inl refl
in_last x (z ∷ xs) = inr (in_last x xs)

-- what stands in the longer list stood there before, or is the new element
pub in_push : {X : Type 0} (x y : X) (xs : List X) → x ∈ (xs ++ y ∷ []) → (x ∈ xs) ⊎ (x ≡ y)
unfolding ◌∈◌
in_push x y [] m = elim m [ inl e ↦ inr e | inr none ↦ absurd none ]
in_push x y (z ∷ xs) m = elim m [
  | inl e ↦ inl (inl e)
  | inr deeper ↦ elim (in_push x y xs deeper) [ inl a ↦ inl (inr a) | inr e ↦ inr e ]
]

-- what is not the new element stood there before
pub in_old : {X : Type 0} (x y : X) (xs : List X) → (x ≡ y → ⊥) → x ∈ (xs ++ y ∷ []) → x ∈ xs
in_old x y xs other m = elim (in_push x y xs m) [ inl a ↦ a | inr e ↦ absurd (other e) ]

pub slice_get-push : {X : Type 0} (xs : List X) (y : X) (p : ℕ) (x : X) → slice_get (xs ++ y ∷ []) p ≡ Some x → ((slice_get xs p ≡ Some x) ⊎ ((x ≡ y) × (p ≡ length xs)))
slice_get-push [] y zero x e = inr (sym (same_Some _ _ e), refl)
slice_get-push [] y (suc p) x e = absurd (cc)
slice_get-push (z ∷ xs) y zero x e = inl e
slice_get-push (z ∷ xs) y (suc p) x e = elim (slice_get-push xs y p x e) [ inl a ↦ inl a | inr b ↦ inr (b.0, omega arith) ]

pub in_at : {X : Type 0} (xs : List X) (p : ℕ) (x : X) → slice_get xs p ≡ Some x → x ∈ xs
unfolding ◌∈◌
in_at [] p x e = absurd (cc)
in_at (z ∷ xs) zero x e = inl (sym (same_Some _ _ e))
in_at (z ∷ xs) (suc p) x e = inr (in_at xs p x e)

-- what holds at each place and at the new end holds at each place of the longer list
pub AtEach-push : {X : Type 0} (P : List X → X → Type 0) (xs : List X) (y : X) → AtEach P xs → P xs y → AtEach P (xs ++ y ∷ [])
AtEach-push {X} P xs y all here = record {
  at = λ p x e. elim (slice_get-push xs y p x e) [
    | inl a ↦ let within : p ≤ length xs = omega (arith, slice_get_within xs p x a) in
        subst (λ (before : List X). P before x) (sym (take-append-le p xs (y ∷ []) within)) (all.at p x a)
    | inr b ↦ let front : take p (xs ++ y ∷ []) ≡ xs = ap (λ n. take n (xs ++ y ∷ [])) b.1 ∙ take-append_seam xs (y ∷ []) in
        subst (λ (z : X). P (take p (xs ++ y ∷ [])) z) (sym b.0) (subst (λ (before : List X). P before y) (sym front) here)
  ];
}

-- a weaker fact holds at each place too
pub AtEach-weaker : {X : Type 0} (P Q : List X → X → Type 0) (xs : List X) → AtEach P xs → ((before : List X) (x : X) → x ∈ xs → P before x → Q before x) → AtEach Q xs
AtEach-weaker P Q xs all f = record { at = λ p x e. f (take p xs) x (in_at xs p x e) (all.at p x e) }
