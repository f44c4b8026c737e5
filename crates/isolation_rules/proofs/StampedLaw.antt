-- For si_judge and worked_words too.
-- Public laws, which the judge above cites. Stamps are in order exactly where no pair of items breaks the rule.
use Rattle.std.proofs.Common.{◌≡◌, ◌<◌, ◌==◌, ◌||◌, ℕ, Bool, true, false, List, Some, take, slice_get, nat_le, inl, inr, refl, sym, ap, subst, ◌∙◌, arith}
use Rattle.std.proofs.lemmas.Bool.{eqb-true, eq-eqb, or_cases, cases_lt}
use Rattle.history_book.specs.Members.{◌∈◌}
use Rattle.history_book.specs.Isolation.{NewStamps, Stamped}
use Rattle.history_book.specs.declared.item.Item.{Item}
use Rattle.history_book.specs.declared.item.Item.TheVariants.{Begin, Placed}
use Rattle.history_book.proofs.MemberLemmas.{in_at}
use Rattle.isolation_rules.specs.StampedPairs.{start_meets, placed_meets, stamps_meet, commits_too_low, BreaksStamped}
use Rattle.isolation_rules.proofs.PlaceLemmas.{some_and, and_some, place_of, place_in_take, in_take}

too_low : (h : List Item) → Stamped h → (x : Item) → x ∈ h → commits_too_low x ≡ true → ⊥
too_low h stamped (Placed t c) m e = let below = stamped.start_below_commit t c m in grind (arith, e, below)
too_low h stamped _ m e = absurd (cc)

begin_meets : (h : List Item) → Stamped h → (i j session t : ℕ) (y : Item) → i < j → slice_get h i ≡ Some (Begin session t) → slice_get h j ≡ Some y → start_meets t y ≡ true → ⊥
begin_meets h stamped i j session t (Begin other u) less ex ey e =
    stamped.distinct.at j (Begin other u) ey session (subst (λ (n : ℕ). Begin session n ∈ take j h) (eqb-true t u e) (in_take (Begin session t) j h i ex less))
begin_meets h stamped i j session t (Placed u d) less ex ey e =
    stamped.no_start_commits session t u (in_at h i (Begin session t) ex) (subst (λ (n : ℕ). Placed u n ∈ h) (sym (eqb-true t d e)) (in_at h j (Placed u d) ey))
begin_meets h stamped i j session t _ less ex ey e = absurd (cc)

commit_meets : (h : List Item) → Stamped h → (i j t c : ℕ) (y : Item) → i < j → slice_get h i ≡ Some (Placed t c) → slice_get h j ≡ Some y → placed_meets t c y ≡ true → ⊥
commit_meets h stamped i j t c (Begin other u) less ex ey e =
    stamped.no_start_commits other u t (in_at h j (Begin other u) ey) (subst (λ (n : ℕ). Placed t n ∈ h) (eqb-true c u e) (in_at h i (Placed t c) ex))
commit_meets h stamped i j t c (Placed u d) less ex ey e =
    let both = stamped.distinct.at j (Placed u d) ey t c (in_take (Placed t c) j h i ex less) in
    elim (or_cases (t == u) (c == d) e) [ inl same ↦ both.0 (eqb-true t u same) | inr same ↦ both.1 (eqb-true c d same) ]
commit_meets h stamped i j t c _ less ex ey e = absurd (cc)

two_meet : (h : List Item) → Stamped h → (i j : ℕ) (x y : Item) → i < j → slice_get h i ≡ Some x → slice_get h j ≡ Some y → stamps_meet x y ≡ true → ⊥
two_meet h stamped i j (Begin session t) y less ex ey e = begin_meets h stamped i j session t y less ex ey e
two_meet h stamped i j (Placed t c) y less ex ey e = commit_meets h stamped i j t c y less ex ey e
two_meet h stamped i j _ y less ex ey e = absurd (cc)

pub stamped_kept : (h : List Item) → Stamped h → (i j : ℕ) → BreaksStamped h i j → ⊥
stamped_kept h stamped i j broken = elim broken [
  | inl one ↦ let found = some_and _ _ one.1 in too_low h stamped found.0 (in_at h i found.0 found.1) found.2
  | inr two ↦ let first = some_and _ _ two.1 in let second = some_and _ _ first.2 in two_meet h stamped i j first.0 second.0 two.0 first.1 second.1 second.2
]

two_break : (h : List Item) (i j : ℕ) (x y : Item) → i < j → slice_get h i ≡ Some x → slice_get h j ≡ Some y → stamps_meet x y ≡ true → BreaksStamped h i j
two_break h i j x y less ex ey e = inr (less, and_some _ _ x ex (and_some _ _ y ey e))

or_left : (a b : Bool) → a ≡ true → (a || b) ≡ true
or_left true b e = refl
or_left false b e = absurd (cc)

or_right : (a b : Bool) → b ≡ true → (a || b) ≡ true
or_right true b e = refl
or_right false b e = e

new_stamps : (h : List Item) → ((i j : ℕ) → BreaksStamped h i j → ⊥) → (p : ℕ) (x : Item) → slice_get h p ≡ Some x → NewStamps (take p h) x
new_stamps h kept p (Begin session t) e = λ other m. let found = place_in_take (Begin other t) p h m in
    kept found.0 p (two_break h found.0 p (Begin other t) (Begin session t) found.1 found.2 e (eq-eqb t t refl))
new_stamps h kept p (Placed t c) e = λ u d m. let found = place_in_take (Placed u d) p h m in (
  λ same. kept found.0 p (two_break h found.0 p (Placed u d) (Placed t c) found.1 found.2 e (or_left (u == t) (d == c) (eq-eqb u t same))),
  λ same. kept found.0 p (two_break h found.0 p (Placed u d) (Placed t c) found.1 found.2 e (or_right (u == t) (d == c) (eq-eqb d c same))),
)
new_stamps h kept p _ e = tt

begin_and_commit : (h : List Item) → ((i j : ℕ) → BreaksStamped h i j → ⊥) → (i j session t u : ℕ) → slice_get h i ≡ Some (Begin session t) → slice_get h j ≡ Some (Placed u t) → ⊥
begin_and_commit h kept i j session t u eb ec = elim (cases_lt i j) [
  | inl less ↦ kept i j (two_break h i j (Begin session t) (Placed u t) less eb ec (eq-eqb t t refl))
  | inr more ↦ elim (cases_lt j i) [
    | inl less ↦ kept j i (two_break h j i (Placed u t) (Begin session t) less ec eb (eq-eqb t t refl))
    | inr same ↦ let at : i ≡ j = omega arith in let one : Some (Begin session t) ≡ Some (Placed u t) = sym eb ∙ ap (λ n. slice_get h n) at ∙ ec in absurd (cc)
  ]
]

below_commit : (h : List Item) → ((i j : ℕ) → BreaksStamped h i j → ⊥) → (i t c : ℕ) → slice_get h i ≡ Some (Placed t c) → t < c
below_commit h kept i t c e = elim (cases_lt t c) [
  | inl less ↦ less
  | inr more ↦ let low : nat_le c t ≡ true = grind (arith, more) in absurd (kept i i (inl (refl, and_some _ _ (Placed t c) e low)))
]

pub kept_stamped : (h : List Item) → ((i j : ℕ) → BreaksStamped h i j → ⊥) → Stamped h
kept_stamped h kept = record {
  distinct = record { at = λ p x e. new_stamps h kept p x e };
  no_start_commits = λ session t u begun placed. begin_and_commit h kept (place_of _ h begun).0 (place_of _ h placed).0 session t u (place_of _ h begun).1 (place_of _ h placed).1;
  start_below_commit = λ t c m. below_commit h kept (place_of _ h m).0 t c (place_of _ h m).1;
}
