-- For si_judge and worked_words too.
-- Public laws, which the judge above cites. The order and range of the pairs that break a rule, and what passing a place means.
use Rattle.std.proofs.Common.{◌≡◌, ◌≢◌, ◌≤◌, ◌<◌, ℕ, List, Option, Some, IfSome, true, length, take, slice_get, inl, inr, refl, subst, arith}
use Rattle.std.proofs.lemmas.Option.{slice_get_within}
use Rattle.history_book.specs.Isolation.{RightRead}
use Rattle.history_book.specs.declared.item.Item.{Item}
use Rattle.history_book.specs.declared.item.Item.TheVariants.{Placed}
use Rattle.isolation_rules.specs.declared.verdict.Rule.{Rule}
use Rattle.isolation_rules.specs.declared.verdict.Rule.TheVariants as rule
use Rattle.isolation_rules.specs.StampedPairs.{commits_too_low, stamps_meet, BreaksStamped}
use Rattle.isolation_rules.specs.ApartPairs.{Overlapping, BreaksApart}
use Rattle.isolation_rules.specs.FreshPairs.{BreaksFresh, IsStale}
use Rattle.isolation_rules.specs.ReadPairs.{AnswersAt}
use Rattle.isolation_rules.specs.Judged.{Breaks, IsKept, Passes}
use Rattle.isolation_rules.proofs.PlaceLemmas.{one_at, both_at}
use Rattle.isolation_rules.proofs.FreshLaw.{stale_before}

there : (h : List Item) (j : ℕ) (x : Item) → slice_get h j ≡ Some x → j < length h
there h j x e = slice_get_within h j x e

stamped_order : (h : List Item) (i j : ℕ) → BreaksStamped h i j → (i ≤ j) × (j < length h)
stamped_order h i j broken = elim broken [
  | inl one ↦
      let found = one_at h i (λ x. commits_too_low x ≡ true) one.1 in
      let less = there h i found.0 found.1 in
      let same = one.0 in
      (omega (arith, same), omega (arith, same, less))
  | inr two ↦
      let found = both_at h i j (λ x y. stamps_meet x y ≡ true) two.1 in
      let order = two.0 in
      (omega (arith, order), there h j found.1 found.3)
]

apart_order : (h : List Item) (i j : ℕ) → BreaksApart h i j → (i ≤ j) × (j < length h)
apart_order h i j broken =
    let found = both_at h i j (λ x y. Overlapping h x y) broken.1 in
    let order = broken.0 in
    (omega (arith, order), there h j found.1 found.3)

stale_order : (h : List Item) (i j : ℕ) (x y : Item) → IsStale h i x j y → i < j
stale_order h i j (Placed t c) y o = stale_before h i c j y o
stale_order h i j _ y o = absurd o

fresh_order : (h : List Item) (i j : ℕ) → BreaksFresh h i j → (i ≤ j) × (j < length h)
fresh_order h i j broken =
    let found = both_at h i j (λ x y. IsStale h i x j y) broken in
    let order = stale_order h i j found.0 found.1 found.4 in
    (omega (arith, order), there h j found.1 found.3)

-- the second place of a pair is not before the first
pub pair_order : (r : Rule) (h : List Item) (i j : ℕ) → r ≢ rule.Read → Breaks r h i j → (i ≤ j) × (j < length h)
pair_order rule.Stamped h i j other broken = stamped_order h i j broken
pair_order rule.Apart h i j other broken = apart_order h i j broken
pair_order rule.Read h i j other broken = absurd (other refl)
pair_order rule.Fresh h i j other broken = fresh_order h i j broken

pub first_within : (r : Rule) (h : List Item) (i j : ℕ) → Breaks r h i j → i < length h
first_within rule.Stamped h i j broken = let order = stamped_order h i j broken in let a = order.0 in let b = order.1 in omega (arith, a, b)
first_within rule.Apart h i j broken = let order = apart_order h i j broken in let a = order.0 in let b = order.1 in omega (arith, a, b)
first_within rule.Read h i j broken = let found = one_at h i (λ x. (RightRead h (take i h) x → ⊥) × AnswersAt h i x j) broken in there h i found.0 found.1
first_within rule.Fresh h i j broken = let order = fresh_order h i j broken in let a = order.0 in let b = order.1 in omega (arith, a, b)

pub passes_none : (r : Rule) (h : List Item) (i : ℕ) → r ≢ rule.Read → ((j : ℕ) → Breaks r h i j → ⊥) → Passes r h i
passes_none rule.Stamped h i other none = none
passes_none rule.Apart h i other none = none
passes_none rule.Read h i other none = absurd (other refl)
passes_none rule.Fresh h i other none = none

-- no pair that begins at a place that passes breaks the rule
pub passes_no : (r : Rule) (h : List Item) (i j : ℕ) → Passes r h i → Breaks r h i j → ⊥
passes_no rule.Stamped h i j passes broken = passes j broken
passes_no rule.Apart h i j passes broken = passes j broken
passes_no rule.Read h i j passes broken =
    let found = one_at h i (λ x. (RightRead h (take i h) x → ⊥) × AnswersAt h i x j) broken in
    found.2.0 (subst (λ (o : Option Item). IfSome o (λ x. RightRead h (take i h) x)) found.1 passes)
passes_no rule.Fresh h i j passes broken = passes j broken

pub all_kept : (r : Rule) (h : List Item) → ((i : ℕ) → i < length h → Passes r h i) → IsKept r h
all_kept r h passes = λ i j broken. passes_no r h i j (passes i (first_within r h i j broken)) broken
