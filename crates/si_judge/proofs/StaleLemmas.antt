-- The walk to the begin that a commit makes stale: one more item.
use Rattle.si_judge.proofs.Names.{◌≡◌, ◌<◌, ◌∙◌, ◌+◌, ℕ, suc, List, [], ◌∷◌, ◌++◌, Option, Some, length, take}
use Rattle.si_judge.proofs.Names.{slice_get, sym, subst, arith, inl, inr, cases_lt, same_Some, slice_get_within, set}
use Rattle.si_judge.proofs.Names.{Item, AskBegin, IsStale, BreaksFresh, both_at, AreLastAsks}
use Rattle.si_judge.proofs.AskIndexLemmas.{ask_noted, one_more}

pub stale_of : (h : List Item) (i j : ℕ) (x y : Item) → slice_get h i ≡ Some x → slice_get h j ≡ Some y → BreaksFresh h i j → IsStale h i x j y
stale_of h i j x y first second broken =
    let found = both_at h i j (λ a b. IsStale h i a j b) broken in
    let one : found.0 ≡ x = same_Some found.0 x (sym found.2 ∙ first) in
    let other : found.1 ≡ y = same_Some found.1 y (sym found.3 ∙ second) in
    subst (λ (a : Item). IsStale h i a j y) one (subst (λ (b : Item). IsStale h i found.0 j b) other found.4)

pub stale_within : (h : List Item) (i j : ℕ) → BreaksFresh h i j → j < length h
stale_within h i j broken =
    let found = both_at h i j (λ a b. IsStale h i a j b) broken in
    slice_get_within h j found.1 found.3

-- no pair so far, and none at the next place
pub none_next : (h : List Item) (first second : ℕ) → ((q : ℕ) → q < second → BreaksFresh h first q → ⊥) → (BreaksFresh h first second → ⊥) → (q : ℕ) → q < second + 1 → BreaksFresh h first q → ⊥
none_next h first second before here q less broken = elim (cases_lt q second) [
  | inl low ↦ before q low broken
  | inr more ↦
      let at : q ≡ second = omega (arith, less, more) in
      here (subst (λ (n : ℕ). BreaksFresh h first n) at broken)
]

pub asks_next : (h : List Item) (place : ℕ) (x : Item) (asks : List (Option ℕ)) → slice_get h place ≡ Some x → AreLastAsks (take place h ++ x ∷ []) asks → AreLastAsks (take (place + 1) h) asks
asks_next h place x asks here asked =
    let next : suc place ≡ place + 1 = omega arith in
    let front = subst (λ (xs : List Item). AreLastAsks xs asks) (sym (one_more h place x here)) asked in
    subst (λ (n : ℕ). AreLastAsks (take n h) asks) next front

pub ask_passed : (before : List Item) (olds : List (Option ℕ)) (session node place at : ℕ) (x : Item) → x ≡ AskBegin session node → at ≡ session → at < length olds → length before ≡ place → AreLastAsks before olds → AreLastAsks (before ++ x ∷ []) (set olds at (Some place))
ask_passed before olds session node place at x is same within long asked =
    let noted = ask_noted before olds session node place (omega (arith, same, within)) long asked in
    let moved = subst (λ (n : ℕ). AreLastAsks (before ++ AskBegin session node ∷ []) (set olds n (Some place))) (sym same) noted in
    subst (λ (y : Item). AreLastAsks (before ++ y ∷ []) (set olds at (Some place))) (sym is) moved
