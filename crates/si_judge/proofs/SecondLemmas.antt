-- A commit whose second is looked for, and an item behind it.
use Rattle.si_judge.proofs.Names.{◌≡◌, ◌<◌, ◌∙◌, ℕ, List, Some, length, slice_get, sym, subst, same_Some}
use Rattle.si_judge.proofs.Names.{slice_get_within, Item, Placed, Overlapping, OverlapsPlaced, BreaksApart, and_some}
use Rattle.si_judge.proofs.Names.{both_at}

pub breaks_at : (h : List Item) (i j t c : ℕ) (y : Item) → i < j → slice_get h i ≡ Some (Placed t c) → slice_get h j ≡ Some y → OverlapsPlaced h t c y → BreaksApart h i j
breaks_at h i j t c y less first second over =
    (less, and_some (slice_get h i) _ (Placed t c) first (and_some (slice_get h j) _ y second over))

pub broken_at : (h : List Item) (i j t c : ℕ) (y : Item) → slice_get h i ≡ Some (Placed t c) → slice_get h j ≡ Some y → BreaksApart h i j → OverlapsPlaced h t c y
broken_at h i j t c y first second broken =
    let found = both_at h i j (λ x z. Overlapping h x z) broken.1 in
    let one : found.0 ≡ Placed t c = same_Some found.0 (Placed t c) (sym found.2 ∙ first) in
    let other : found.1 ≡ y = same_Some found.1 y (sym found.3 ∙ second) in
    subst (λ (x : Item). Overlapping h x y) one (subst (λ (z : Item). Overlapping h found.0 z) other found.4)

pub apart_within : (h : List Item) (i j : ℕ) → BreaksApart h i j → j < length h
apart_within h i j broken =
    let found = both_at h i j (λ x z. Overlapping h x z) broken.1 in
    slice_get_within h j found.1 found.3
