-- Items that share no stamp with those behind.
use Rattle.si_judge.proofs.Names.{◌≡◌, ℕ, true, ◌≤◌, suc, List, Some, length, slice_get, arith, inl, inr, sym, ap}
use Rattle.si_judge.proofs.Names.{subst, ◌∙◌, cases_lt, same_Some, slice_get_within, Item, Begin, Placed, Passes}
use Rattle.si_judge.proofs.Names.{one_at, both_at}
use Rattle.isolation_rules.specs.declared.verdict.Rule.TheVariants as rule
use Rattle.isolation_rules.specs.StampedPairs.{stamps_meet, commits_too_low}
use Rattle.si_judge.specs.declared.stamp_index.Stamps.{Stamps}
use Rattle.si_judge.specs.StampIndex.{HasStamps, KeepsStamps, IsClear}

-- the index has the stamps of the items behind a place
pub record HasBehind (h : List Item) (index : Stamps) (place : ℕ) : Type 0 where
  pub at : (j : ℕ) (y : Item) → place ≤ j → slice_get h j ≡ Some y → HasStamps index y

pub behind_none : (h : List Item) (index : Stamps) → HasBehind h index (length h)
behind_none h index = record { at = λ j y le there. let less = slice_get_within h j y there in absurd (omega (arith, le, less)) }

pub clear_passes : (h : List Item) (index : Stamps) (place : ℕ) (x : Item) → slice_get h place ≡ Some x → HasBehind h index (suc place) → IsClear index x → Passes rule.Stamped h place
clear_passes h index place x here behind clear = λ j broken. elim broken [
  | inl one ↦
      let found = one_at h place (λ x. commits_too_low x ≡ true) one.1 in
      let low : commits_too_low x ≡ true = ap commits_too_low (same_Some _ _ (sym here ∙ found.1)) ∙ found.2 in
      let above = clear.above in
      absurd (cc)
  | inr two ↦
      let found = both_at h place j (λ x y. stamps_meet x y ≡ true) two.1 in
      let meets : stamps_meet x found.1 ≡ true = ap (λ z. stamps_meet z found.1) (same_Some _ _ (sym here ∙ found.2)) ∙ found.4 in
      let less = two.0 in
      let apart = clear.apart found.1 (behind.at j found.1 (omega (arith, less)) found.3) in
      absurd (cc)
]

kept_stamps : (old new : Stamps) → KeepsStamps old new → (y : Item) → HasStamps old y → HasStamps new y
kept_stamps old new keeps (Begin session start) has = keeps.drawn start has
kept_stamps old new keeps (Placed start commit) has = (keeps.placed start has.0, keeps.drawn commit has.1)
kept_stamps old new keeps _ has = has

-- one more item
pub behind_more : (h : List Item) (old new : Stamps) (place : ℕ) (x : Item) → slice_get h place ≡ Some x → HasBehind h old (suc place) → KeepsStamps old new → HasStamps new x → HasBehind h new place
behind_more h old new place x here behind keeps has = record {
  at = λ j y le there. elim (cases_lt place j) [
    | inl less ↦ kept_stamps old new keeps y (behind.at j y (omega (arith, less)) there)
    | inr more ↦
        let same : place ≡ j = omega (arith, le, more) in
        subst (λ (z : Item). HasStamps new z) (same_Some _ _ (sym here ∙ ap (λ n. slice_get h n) same ∙ there)) has
  ];
}
