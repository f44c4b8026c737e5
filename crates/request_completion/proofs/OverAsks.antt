-- How many asks are open after items among which none asks.
use Rattle.std.proofs.Common.{arith}
use Rattle.request_completion.proofs.Names.{◌≡◌, ℕ, suc, Bool, true, if◌then◌else◌, List, [], ◌∷◌, inl, inr}
use Rattle.request_completion.proofs.Names.{refl, sym, ◌∙◌, ap, fold, All-head, All-tail, ◌∈◌, Item, closes, open_then}
use Rattle.request_completion.proofs.Names.{open_asks_of}
use Rattle.std.proofs.lemmas.List.Sums.{fold-append}
use Rattle.request_completion.specs.Overs.{NoAsk, NoneAsks, OverStaysOver, ClosedAsksAreOver}

-- ---- one item
none_then : (n s : ℕ) (x : Item) → NoAsk n s x → open_then n s 0 x ≡ 0
none_then n s x none = grind arith

closed_then : (n s count : ℕ) (x : Item) → NoAsk n s x → closes n s x ≡ true → open_then n s count x ≡ 0
closed_then n s count x none over =
    ap (λ (b : Bool). if b then suc count else if closes n s x then 0 else count) none
    ∙ ap (λ (b : Bool). if b then 0 else count) over

-- ---- all items
stays : (n s : ℕ) (items : List Item) → NoneAsks n s items → fold (open_then n s) 0 items ≡ 0
stays n s [] none = refl
stays n s (x ∷ items) none =
    ap (λ (count : ℕ). fold (open_then n s) count items) (none_then n s x (All-head (NoAsk n s) x items none)) ∙ stays n s items (All-tail (NoAsk n s) x items none)

over_by : (n s count : ℕ) (items : List Item) (x : Item) → NoneAsks n s items → x ∈ items → closes n s x ≡ true → fold (open_then n s) count items ≡ 0
unfolding ◌∈◌
over_by n s count [] x none m over = absurd m
over_by n s count (y ∷ items) x none (inl same) over =
    let first : open_then n s count y ≡ 0 = closed_then n s count y (All-head (NoAsk n s) y items none) (ap (closes n s) (sym same) ∙ over) in
    ap (λ (now : ℕ). fold (open_then n s) now items) first ∙ stays n s items (All-tail (NoAsk n s) y items none)
over_by n s count (y ∷ items) x none (inr m) over = over_by n s (open_then n s count y) items x (All-tail (NoAsk n s) y items none) m over

pub over_stays_over : OverStaysOver
over_stays_over h items n s over none = fold-append (open_then n s) 0 h items ∙ (ap (λ (count : ℕ). fold (open_then n s) count items) over ∙ stays n s items none)

pub closed_asks_are_over : ClosedAsksAreOver
closed_asks_are_over h items n s x m over none = fold-append (open_then n s) 0 h items ∙ over_by n s (open_asks_of h n s) items x none m over
