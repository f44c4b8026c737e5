-- One explanation more.
use Rattle.std.proofs.Common.{◌≡◌, ℕ, zero, suc, ◌+◌, ◌<◌, true, List, [], ◌∷◌, ◌++◌, Option, Some, None, append_assoc, ap, ◌∙◌, sym, refl, drop, take, length, is_some, add-one, arith}
use Rattle.std.specs.Prelude.{slice_get, IfSome}
use Rattle.history_book.specs.declared.item.Item.{Item}
use Rattle.refusal_reasons.specs.Words.{explanation, explanations}
use Rattle.refusal_reasons.proofs.PartLemmas.{at_head}

stands_at : {X : Type 0} (xs : List X) (place : ℕ) → place < length xs → is_some (slice_get xs place) ≡ true
stands_at [] place within = absurd (omega (arith, within))
stands_at (y ∷ ys) zero within = refl
stands_at (y ∷ ys) (suc place) within = stands_at ys place (omega (arith, within))

abbrev Adds : List ℕ → List ℕ → List Item → ℕ → Option Item → Type 0
Adds old new items place there = IfSome there (λ item. new ≡ old ++ explanation (take place items) item)

more_by : (old new : List ℕ) (items : List Item) (place : ℕ) (there : Option Item) → slice_get items place ≡ there → is_some there ≡ true → Adds old new items place there
    → new ++ explanations items (place + 1) (drop (place + 1) items) ≡ old ++ explanations items place (drop place items)
unfolding explanations
more_by old new items place None is some adds = absurd cc
more_by old new items place (Some x) is some adds =
    let parts : drop place items ≡ x ∷ drop (place + 1) items = rw add-one (at_head items place x is) in
    ap (λ text. text ++ explanations items (place + 1) (drop (place + 1) items)) adds
    ∙ (append_assoc old (explanation (take place items) x) (explanations items (place + 1) (drop (place + 1) items))
    ∙ ap (λ rest. old ++ explanations items place rest) (sym parts))

pub one_more : (old new : List ℕ) (items : List Item) (place : ℕ) → place < length items → Adds old new items place (slice_get items place)
    → new ++ explanations items (place + 1) (drop (place + 1) items) ≡ old ++ explanations items place (drop place items)
one_more old new items place within adds = more_by old new items place (slice_get items place) refl (stands_at items place within) adds
