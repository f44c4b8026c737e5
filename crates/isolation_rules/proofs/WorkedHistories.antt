-- The small histories, gone through place by place.
use Rattle.std.proofs.Common.{◌≡◌, ℕ, ◌<◌, [], ◌∷◌, inl, inr, refl, arith}
use Rattle.history_book.specs.Members.{◌∈◌, AtEach}
use Rattle.history_book.specs.Isolation.{last_write, NewStamps, Apart, Stamped, StartsAbove, Fresh, Isolated, before_ask, has_ask}
use Rattle.history_book.specs.declared.item.Item.TheVariants.{AskBegin, Begin, Placed}
use Rattle.history_book.proofs.MemberLemmas.{AtEach-push}
use Rattle.isolation_rules.specs.WorkedHistories.{p, q, both_committed, stale_begin, asked_before, one_commit_of_two, one_start_of_two, start_as_commit, commit_of_three}

pub both_not_apart : Apart both_committed → ⊥
unfolding ◌∈◌ last_write
both_not_apart a = elim (a.apart 1 3 2 4 0 p q (inr (inr (inl refl))) (inr (inr (inr (inl refl)))) (λ e. absurd (omega arith)) refl refl) [
  | inl l ↦ absurd (omega arith)
  | inr l ↦ absurd (omega arith)
]

pub stale_not_fresh : Fresh stale_begin → ⊥
unfolding before_ask has_ask ◌∈◌
stale_not_fresh f = let low : 3 < 2 = f.at 2 (Begin 1 2) refl 1 3 (inl refl) in absurd (omega arith)

nothing_before : (t c : ℕ) → Placed t c ∈ before_ask 1 (AskBegin 1 0 ∷ Placed 1 3 ∷ []) → c < 2
unfolding before_ask has_ask ◌∈◌
nothing_before t c m = absurd m

pub asked_fresh : Fresh asked_before
asked_fresh =
    let none : AtEach StartsAbove [] = record { at = λ n x e. absurd (cc) } in
    let one : AtEach StartsAbove (AskBegin 1 0 ∷ []) = AtEach-push StartsAbove [] (AskBegin 1 0) none tt in
    let two : AtEach StartsAbove (AskBegin 1 0 ∷ Placed 1 3 ∷ []) = AtEach-push StartsAbove (AskBegin 1 0 ∷ []) (Placed 1 3) one tt in
    AtEach-push StartsAbove (AskBegin 1 0 ∷ Placed 1 3 ∷ []) (Begin 1 2) two nothing_before

pub one_commit_wrong : Stamped one_commit_of_two → ⊥
unfolding ◌∈◌
one_commit_wrong s = (s.distinct.at 1 (Placed 2 3) refl 1 3 (inl refl)).1 refl

pub one_start_wrong : Stamped one_start_of_two → ⊥
unfolding ◌∈◌
one_start_wrong s = s.distinct.at 1 (Begin 1 1) refl 0 (inl refl)

pub start_as_commit_wrong : Stamped start_as_commit → ⊥
unfolding ◌∈◌
start_as_commit_wrong s = s.no_start_commits 0 3 1 (inl refl) (inr (inl refl))

-- nothing stands before the only commit
first_commit : AtEach NewStamps (commit_of_three 4)
unfolding ◌∈◌
first_commit =
    let none : AtEach NewStamps [] = record { at = λ n x e. absurd (cc) } in
    AtEach-push NewStamps [] (Placed 3 4) none (λ t c m. absurd m)

pub above_stamped : Stamped (commit_of_three 4)
unfolding ◌∈◌
above_stamped = record {
  distinct = first_commit;
  no_start_commits = λ session t u m _. absurd (elim m [ inl e ↦ absurd (cc) | inr none ↦ none ]);
  start_below_commit = λ t c m. elim m [ inl e ↦ let start : t ≡ 3 = cc in let commit : c ≡ 4 = cc in omega arith | inr none ↦ absurd none ];
}

pub at_start_wrong : Isolated (commit_of_three 3) → ⊥
unfolding ◌∈◌
at_start_wrong i = let less : 3 < 3 = i.stamped.start_below_commit 3 3 (inl refl) in absurd (omega arith)

pub below_start_wrong : Isolated (commit_of_three 2) → ⊥
unfolding ◌∈◌
below_start_wrong i = let less : 3 < 2 = i.stamped.start_below_commit 3 2 (inl refl) in absurd (omega arith)
