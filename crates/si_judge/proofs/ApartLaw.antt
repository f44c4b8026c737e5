-- Commits are apart exactly where no pair of items breaks the rule.
use Rattle.si_judge.proofs.Names.{◌≡◌, ◌≢◌, ◌≤◌, ◌<◌, ℕ, List, Some, slice_get, inl, inr, sym, ap, ◌∙◌, arith, cases_lt}
use Rattle.si_judge.proofs.Names.{same_Some, Apart, Item, Placed, in_at, ShareKey, Overlap, OverlapsPlaced, Overlapping}
use Rattle.si_judge.proofs.Names.{BreaksApart, some_and, and_some, place_of}

placed_apart : (h : List Item) → Apart h → (i j t c : ℕ) (y : Item) → slice_get h i ≡ Some (Placed t c) → slice_get h j ≡ Some y → OverlapsPlaced h t c y → ⊥
placed_apart h apart i j t c (Placed u d) ex ey o =
    elim (apart.apart t c u d o.3.key o.3.first.0 o.3.second.0 (in_at h i _ ex) (in_at h j _ ey) o.0 o.3.first.1 o.3.second.1) [ inl less ↦ let more = o.1 in omega (arith, less, more) | inr less ↦ let more = o.2 in omega (arith, less, more) ]
placed_apart h apart i j t c _ ex ey o = absurd o

two_apart : (h : List Item) → Apart h → (i j : ℕ) (x y : Item) → slice_get h i ≡ Some x → slice_get h j ≡ Some y → Overlapping h x y → ⊥
two_apart h apart i j (Placed t c) y ex ey o = placed_apart h apart i j t c y ex ey o
two_apart h apart i j _ y ex ey o = absurd o

pub apart_kept : (h : List Item) → Apart h → (i j : ℕ) → BreaksApart h i j → ⊥
apart_kept h apart i j broken = let first = some_and _ _ broken.1 in let second = some_and _ _ first.2 in
    two_apart h apart i j first.0 second.0 first.1 second.1 second.2

two_break : (h : List Item) (i j t c u d : ℕ) → i < j → slice_get h i ≡ Some (Placed t c) → slice_get h j ≡ Some (Placed u d) → Overlap h t c u d → BreaksApart h i j
two_break h i j t c u d less ex ey o = (less, and_some _ _ (Placed t c) ex (and_some _ _ (Placed u d) ey o))

start_of : Item → ℕ
start_of (Placed t c) = t
start_of _ = 0

one_start : (t c u d : ℕ) → Placed t c ≡ Placed u d → t ≡ u
unfolding start_of
one_start t c u d e = ap start_of e

overlapped : (h : List Item) → ((i j : ℕ) → BreaksApart h i j → ⊥) → (i j t c u d : ℕ) → slice_get h i ≡ Some (Placed t c) → slice_get h j ≡ Some (Placed u d) → t ≢ u → u ≤ c → t ≤ d → ShareKey h t u → ⊥
overlapped h kept i j t c u d ex ey other uc td shared = elim (cases_lt i j) [
  | inl less ↦ kept i j (two_break h i j t c u d less ex ey (other, uc, td, shared))
  | inr more ↦ elim (cases_lt j i) [
    | inl less ↦ kept j i (two_break h j i u d t c less ey ex (λ e. other (sym e), td, uc, record { key = shared.key; first = shared.second; second = shared.first }))
    | inr same ↦ let at : i ≡ j = omega arith in other (one_start t c u d (same_Some _ _ (sym ex ∙ ap (λ n. slice_get h n) at ∙ ey)))
  ]
]

pub kept_apart : (h : List Item) → ((i j : ℕ) → BreaksApart h i j → ⊥) → Apart h
kept_apart h kept = record {
  apart = λ t c u d k v w ct cu other wt wu. elim (cases_lt c u) [
    | inl less ↦ inl less
    | inr uc ↦ elim (cases_lt d t) [
      | inl less ↦ inr less
      | inr td ↦ absurd (overlapped h kept (place_of _ h ct).0 (place_of _ h cu).0 t c u d (place_of _ h ct).1 (place_of _ h cu).1 other uc td (record { key = k; first = (v, wt); second = (w, wu) }))
    ]
  ];
}
