-- A bar that is followed behind another begin of its session: over one item more, and at the last of them.
use Rattle.std.proofs.Common.{◌≡◌, ℕ, zero, suc, ◌+◌, ◌-◌, ◌<◌, ◌≤◌, List, ◌∷◌, drop, length, get_or, add-one, arith, refl, sym, ap, ◌∙◌}
use Rattle.std.proofs.Math.Seq.{drop-cons}
use Rattle.std.proofs.lemmas.List.{drop_all}
use Rattle.history_book.specs.declared.item.Item.{Item}
use Rattle.history_signs.specs.declared.bar.Bar.{Bar}
use Rattle.history_signs.specs.Bars.{goes_to, own_to}

pub own_more : (left s t : ℕ) (bar : Bar) (place : ℕ) (items : List Item) (d : Item) → 0 < left → place < length items
    → own_to (left - 1) s t (goes_to s t (get_or items place d) place bar) (place + 1) (drop (place + 1) items) ≡ own_to left s t bar place (drop place items)
unfolding own_to
own_more zero s t bar place items d some within = absurd (omega (arith, some))
own_more (suc left) s t bar place items d some within =
    let parts : drop place items ≡ get_or items place d ∷ drop (place + 1) items = rw add-one (drop-cons items place d within) in
    let less : suc left - 1 ≡ left = omega arith in
    ap (λ n. own_to n s t (goes_to s t (get_or items place d) place bar) (place + 1) (drop (place + 1) items)) less
    ∙ ap (λ rest. own_to (suc left) s t bar place rest) (sym parts)

pub own_past : (left s t : ℕ) (bar : Bar) (place : ℕ) (items : List Item) → length items ≤ place → own_to left s t bar place (drop place items) ≡ bar
unfolding own_to
own_past zero s t bar place items past = refl
own_past (suc left) s t bar place items past = ap (λ rest. own_to (suc left) s t bar place rest) (drop_all place items past)
