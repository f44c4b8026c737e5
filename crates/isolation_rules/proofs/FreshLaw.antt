-- For si_judge too.
-- Public laws, which the judge above cites. Begins are fresh exactly where no pair of items breaks the rule.
use Rattle.std.proofs.Common.{◌≡◌, ◌≤◌, ◌<◌, ℕ, List, Some, length, take, slice_get, inl, inr, sym, subst, arith}
use Rattle.std.proofs.lemmas.Bool.{cases_lt}
use Rattle.history_book.specs.Members.{◌∈◌}
use Rattle.history_book.specs.Isolation.{before_ask, StartsAbove, Fresh}
use Rattle.history_book.specs.declared.item.Item.{Item}
use Rattle.history_book.specs.declared.item.Item.TheVariants.{Begin, Placed}
use Rattle.isolation_rules.specs.FreshPairs.{ask_place, IsStaleAt, IsStale, BreaksFresh}
use Rattle.isolation_rules.proofs.AskLemmas.{ask_within, before_ask-take}
use Rattle.isolation_rules.proofs.PlaceLemmas.{some_and, and_some, place_in_take, in_take, slice_get_take, slice_get_taken, length_take_within}

-- what stands before the ask stands before the begin
pub asked_before : (h : List Item) (session i j : ℕ) → i < ask_place h session j → i < j
asked_before h session i j less = let a = ask_within session (take j h) in let b = length_take_within j h in omega (arith, less, a, b)

pub stale_before : (h : List Item) (i commit j : ℕ) (y : Item) → IsStaleAt h i commit j y → i < j
stale_before h i commit j (Begin session start) o = asked_before h session i j o.0
stale_before h i commit j _ o = absurd o

pub stale_low : (h : List Item) (i commit j session start : ℕ) (y : Item) → y ≡ Begin session start → IsStaleAt h i commit j y → start ≤ commit
stale_low h i commit j session start y e o = (subst (λ (x : Item). IsStaleAt h i commit j x) e o).1

stale_fresh : (h : List Item) → Fresh h → (i j t c : ℕ) (y : Item) → slice_get h i ≡ Some (Placed t c) → slice_get h j ≡ Some y → IsStaleAt h i c j y → ⊥
stale_fresh h fresh i j t c (Begin session start) ex ey o =
    let before : List Item = take j h in
    let there : Placed t c ∈ take (length (before_ask session before)) before = in_take (Placed t c) _ before i (slice_get_take (Placed t c) j h i ex (asked_before h session i j o.0)) o.0 in
    let less = fresh.at j (Begin session start) ey t c (subst (λ (xs : List Item). Placed t c ∈ xs) (sym (before_ask-take session before)) there) in
    let more = o.1 in
    omega (arith, less, more)
stale_fresh h fresh i j t c _ ex ey o = absurd o

two_fresh : (h : List Item) → Fresh h → (i j : ℕ) (x y : Item) → slice_get h i ≡ Some x → slice_get h j ≡ Some y → IsStale h i x j y → ⊥
two_fresh h fresh i j (Placed t c) y ex ey o = stale_fresh h fresh i j t c y ex ey o
two_fresh h fresh i j _ y ex ey o = absurd o

pub fresh_kept : (h : List Item) → Fresh h → (i j : ℕ) → BreaksFresh h i j → ⊥
fresh_kept h fresh i j broken = let first = some_and _ _ broken in let second = some_and _ _ first.2 in
    two_fresh h fresh i j first.0 second.0 first.1 second.1 second.2

starts_above : (h : List Item) → ((i j : ℕ) → BreaksFresh h i j → ⊥) → (p : ℕ) (x : Item) → slice_get h p ≡ Some x → StartsAbove (take p h) x
starts_above h kept p (Begin session start) e = λ t c m. elim (cases_lt c start) [
  | inl less ↦ less
  | inr more ↦
      let before : List Item = take p h in
      let found = place_in_take (Placed t c) _ before (subst (λ (xs : List Item). Placed t c ∈ xs) (before_ask-take session before) m) in
      absurd (kept found.0 p (and_some _ _ (Placed t c) (slice_get_taken (Placed t c) p h found.0 found.2) (and_some _ _ (Begin session start) e (found.1, more))))
]
starts_above h kept p _ e = tt

pub kept_fresh : (h : List Item) → ((i j : ℕ) → BreaksFresh h i j → ⊥) → Fresh h
kept_fresh h kept = record { at = λ p x e. starts_above h kept p x e }
