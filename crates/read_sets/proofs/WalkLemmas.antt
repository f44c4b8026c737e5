-- The walk over placed commits, place by place.
use Rattle.std.proofs.Common.{◌≡◌, ◌<◌, ◌≤◌, ◌+◌, ℕ, Bool, true, false, List, Some, length, slice_get, inl, inr, sym, ap, subst, ◌∙◌, arith}
use Rattle.std.specs.Prelude.{Decides}
use Rattle.std.proofs.lemmas.Bool.{cases_lt}
use Rattle.std.proofs.lemmas.Option.{same_Some, slice_get_within}
use Rattle.history_book.specs.declared.item.Item.{Item}
use Rattle.isolation_rules.proofs.PlaceLemmas.{some_and, and_some}
use Rattle.read_sets.specs.Crossings.{CrossesUpTo, CrossesAt}

pub crossed_here : (h : List Item) (s k d place : ℕ) (x : Item) (r : Bool) → slice_get h place ≡ Some x → Decides r (CrossesUpTo h s k d x) → r ≡ true → CrossesAt h s k d place
crossed_here h s k d place x r there told on = and_some (slice_get h place) (λ y. CrossesUpTo h s k d y) x there (told.0 on)

pub uncrossed_more : (h : List Item) (s k d place : ℕ) (x : Item) (r : Bool) → slice_get h place ≡ Some x → Decides r (CrossesUpTo h s k d x) → r ≡ false → ((q : ℕ) → q < place → CrossesAt h s k d q → ⊥) → (q : ℕ) → q < place + 1 → CrossesAt h s k d q → ⊥
uncrossed_more h s k d place x r there told off before q less at = elim (cases_lt q place) [
  | inl earlier ↦ before q earlier at
  | inr more ↦
      let same : q ≡ place = omega (arith, less, more) in
      let found = some_and (slice_get h q) (λ y. CrossesUpTo h s k d y) at in
      let item : found.0 ≡ x = same_Some _ _ (sym found.1 ∙ ap (λ n. slice_get h n) same ∙ there) in
      let on = told.1 (subst (λ (y : Item). CrossesUpTo h s k d y) item found.2) in
      absurd (cc)
]

pub uncrossed_all : (h : List Item) (s k d n : ℕ) → length h ≤ n → ((q : ℕ) → q < n → CrossesAt h s k d q → ⊥) → (q : ℕ) → CrossesAt h s k d q → ⊥
uncrossed_all h s k d n all before q at =
    let found = some_and (slice_get h q) (λ y. CrossesUpTo h s k d y) at in
    let less = slice_get_within h q found.0 found.1 in
    before q (omega (arith, less, all)) at
