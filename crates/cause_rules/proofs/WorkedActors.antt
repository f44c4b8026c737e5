-- The short histories of a lease that may still stand, and of refusals that are told to the wrong actor.
use Rattle.std.proofs.Common.{◌≡◌, ℕ, ◌+◌, ◌<◌, [], ◌∷◌, None, Some, inl, inr, refl, arith}
use Rattle.stamp_base.specs.SetupNumbers.{SetupNumbers, default_numbers}
use Rattle.history_book.specs.Members.{◌∈◌}
use Rattle.history_book.specs.declared.cause.Cause.TheVariants as cause
use Rattle.history_book.specs.declared.item.Actor.TheVariants.{Session, Node, Janitor, Clock}
use Rattle.history_book.specs.declared.item.Item.{Item}
use Rattle.history_book.specs.declared.item.Item.TheVariants.{Take, Renew, Vanish}
use Rattle.cause_rules.specs.Commits.{ShownConflict}
use Rattle.cause_rules.specs.Posts.{HasNone}
use Rattle.cause_rules.specs.Refusals.{ShownEarly}
use Rattle.cause_rules.specs.Explained.{Explained}
use Rattle.cause_rules.specs.WorkedHistories.{told}
use Rattle.cause_rules.specs.WorkedCommits.{conflicting, before_conflict}
use Rattle.cause_rules.specs.WorkedTerms.{before_expired}
use Rattle.cause_rules.specs.WorkedRequests.{two_slots, before_full}
use Rattle.cause_rules.specs.WorkedNodes.{taken_then, before_early, early_told}
use Rattle.cause_rules.proofs.WorkedRefusals.{of_each, shown_explains, explained_shows}

-- ---- leases that may still stand
pub before_the_skew : Explained default_numbers (early_told 11 10)
unfolding ◌∈◌
before_the_skew = shown_explains default_numbers before_early (Node 1) (cause.Early 11 10) refl (record {
  given = inl (0, 0, 1, 0, 100, inl refl);
  before = omega arith;
})

pub renewed_before_the_skew : Explained default_numbers (early_told 16 15)
unfolding ◌∈◌
renewed_before_the_skew = shown_explains default_numbers before_early (Node 1) (cause.Early 16 15) refl (record {
  given = inr (0, 5, 1, inr (inl refl));
  before = omega arith;
})

early_shown : (setup : SetupNumbers) (reading until : ℕ) → Explained setup (early_told reading until) → ShownEarly setup before_early reading until
early_shown setup reading until = explained_shows setup before_early (Node 1) (cause.Early reading until)

pub at_the_skew : Explained default_numbers (early_told 12 10) → ⊥
at_the_skew e = let before : 12 < 10 + 2 = (early_shown default_numbers 12 10 e).before in absurd (omega (arith, before))

pub renewed_at_the_skew : Explained default_numbers (early_told 17 15) → ⊥
renewed_at_the_skew e = let before : 17 < 15 + 2 = (early_shown default_numbers 17 15 e).before in absurd (omega (arith, before))

-- the ends that were given
abbrev TwoEnds : Item → Type 0
TwoEnds (Take node reading term epoch until ceiling) = until ≡ 10
TwoEnds (Renew node reading term until) = until ≡ 15
TwoEnds _ = Unit {0}

pub end_never_given : Explained default_numbers (early_told 11 11) → ⊥
end_never_given e = elim (early_shown default_numbers 11 11 e).given [
  | inl t ↦ let same : 11 ≡ 10 = of_each TwoEnds (Take t.0 t.1 t.2 t.3 11 t.4) before_early (refl, (refl, tt)) t.5 in absurd (omega (arith, same))
  | inr r ↦ let same : 11 ≡ 15 = of_each TwoEnds (Renew r.0 r.1 r.2 11) before_early (refl, (refl, tt)) r.3 in absurd (omega (arith, same))
]

-- ---- the wrong actor
pub early_to_a_session : Explained default_numbers (told before_early (Session 1) (cause.Early 11 10)) → ⊥
early_to_a_session = explained_shows default_numbers before_early (Session 1) (cause.Early 11 10)

pub holding_to_a_session : Explained default_numbers (told (taken_then []) (Session 0) (cause.Holding 1)) → ⊥
holding_to_a_session = explained_shows default_numbers (taken_then []) (Session 0) (cause.Holding 1)

pub conflict_to_a_node : Explained default_numbers (told (before_conflict conflicting) (Node 0) (cause.Conflict 0 3)) → ⊥
conflict_to_a_node = explained_shows default_numbers (before_conflict conflicting) (Node 0) (cause.Conflict 0 3)

pub conflict_to_the_writer : Explained default_numbers (told (before_conflict conflicting) (Session 0) (cause.Conflict 0 3)) → ⊥
conflict_to_the_writer e =
    let shown : ShownConflict default_numbers (before_conflict conflicting) 0 0 3 = explained_shows default_numbers (before_conflict conflicting) (Session 0) (cause.Conflict 0 3) e in
    let term : None ≡ Some shown.term = shown.term_is in
    absurd (cc)

pub expired_to_a_node : Explained default_numbers (told before_expired (Node 0) (cause.Expired 35 35)) → ⊥
expired_to_a_node = explained_shows default_numbers before_expired (Node 0) (cause.Expired 35 35)

pub full_to_the_node : Explained two_slots (told (before_full 0 []) (Node 0) (cause.Full 2)) → ⊥
full_to_the_node = explained_shows two_slots (before_full 0 []) (Node 0) (cause.Full 2)

pub gone_to_the_janitor : Explained default_numbers (told (Vanish 0 ∷ []) Janitor cause.Gone) → ⊥
gone_to_the_janitor = explained_shows default_numbers (Vanish 0 ∷ []) Janitor cause.Gone

pub no_oracle_to_the_clock : Explained default_numbers (told [] Clock (cause.NoOracle 0)) → ⊥
no_oracle_to_the_clock = explained_shows default_numbers [] Clock (cause.NoOracle 0)

pub no_oracle_to_a_node : Explained default_numbers (told [] (Node 0) (cause.NoOracle 0))
no_oracle_to_a_node = shown_explains default_numbers [] (Node 0) (cause.NoOracle 0) refl (refl, inl refl)

pub no_oracle_to_another_node : Explained default_numbers (told [] (Node 1) (cause.NoOracle 0)) → ⊥
no_oracle_to_another_node e =
    let shown : (0 ≡ 1) × HasNone [] 0 = explained_shows default_numbers [] (Node 1) (cause.NoOracle 0) e in
    let same : 0 ≡ 1 = shown.0 in
    absurd (omega (arith, same))

pub no_oracle_to_the_janitor : Explained default_numbers (told [] Janitor (cause.NoOracle 0))
no_oracle_to_the_janitor = shown_explains default_numbers [] Janitor (cause.NoOracle 0) refl (inl refl)

pub busy_to_a_session : Explained default_numbers (told [] (Session 0) cause.Busy)
busy_to_a_session = shown_explains default_numbers [] (Session 0) cause.Busy refl tt

pub busy_to_a_node : Explained default_numbers (told [] (Node 0) cause.Busy) → ⊥
busy_to_a_node = explained_shows default_numbers [] (Node 0) cause.Busy

pub no_request_to_a_session : Explained default_numbers (told [] (Session 0) (cause.NoRequest 0)) → ⊥
no_request_to_a_session = explained_shows default_numbers [] (Session 0) (cause.NoRequest 0)

pub undecided_to_a_session : Explained default_numbers (told [] (Session 0) (cause.Undecided 1 0)) → ⊥
undecided_to_a_session = explained_shows default_numbers [] (Session 0) (cause.Undecided 1 0)
