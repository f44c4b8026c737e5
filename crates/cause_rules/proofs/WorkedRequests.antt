-- The short histories of begins that wait and of sessions that are gone.
use Rattle.std.proofs.Common.{◌≡◌, ℕ, ◌<◌, true, false, [], ◌∷◌, Some, inl, inr, refl, sym, ◌∙◌, subst, arith}
use Rattle.std.proofs.lemmas.Option.{same_Some}
use Rattle.stamp_base.specs.SetupNumbers.{default_numbers}
use Rattle.history_book.specs.Members.{◌∈◌}
use Rattle.history_book.specs.Isolation.{Committed}
use Rattle.history_book.specs.declared.cause.Cause.TheVariants as cause
use Rattle.history_book.specs.declared.item.Actor.TheVariants.{Session}
use Rattle.history_book.specs.declared.item.Item.{Item}
use Rattle.history_book.specs.declared.item.Item.TheVariants.{Draw, Placed, Vanish}
use Rattle.cause_rules.specs.Commits.{ShownNotYet}
use Rattle.cause_rules.specs.Explained.{Explained}
use Rattle.cause_rules.specs.WorkedCommits.{directly}
use Rattle.cause_rules.specs.WorkedRequests.{Waiting, waiting, before_not_yet, not_yet_told, gone_told, vanishes_later}
use Rattle.cause_rules.proofs.WorkedRefusals.{of_each, shown_explains, explained_shows, explained_between}

-- ---- begins that wait
abbrev OnlyPlaced : ℕ → Item → Type 0
OnlyPlaced commit (Placed start placed) = placed ≡ commit
OnlyPlaced commit _ = Unit {0}

not_placed : (t : ℕ) → Committed (before_not_yet waiting) t 2 → ⊥
not_placed t placed =
    let same : 2 ≡ 4 = of_each (OnlyPlaced 4) (Placed t 2) (before_not_yet waiting) (tt, (tt, (tt, (tt, (refl, tt))))) placed in
    absurd (omega (arith, same))

pub unplaced_below : Explained default_numbers (not_yet_told waiting)
unfolding ◌∈◌
unplaced_below = shown_explains default_numbers (before_not_yet waiting) (Session 1) (cause.NotYet 2) refl (record {
  waits = refl;
  node = 0;
  node_is = refl;
  start = 6;
  start_is = refl;
  term = 1;
  term_is = refl;
  writer = 1;
  drawn = (0, 0, inl refl);
  below = omega arith;
  unplaced = not_placed;
})

record ToldNotYet (c : Waiting) : Type 0 where
  drawn : (1 ≡ c.drawn_in) × (c.commit ≡ 2)
  below : c.commit < c.start
  unplaced : (t : ℕ) → Committed (before_not_yet c) t c.commit → ⊥

abbrev OnlyCommit : ℕ → Item → Type 0
OnlyCommit drawn_in (Draw session node term start (Some commit)) = (term ≡ drawn_in) × (commit ≡ 2)
OnlyCommit drawn_in _ = Unit {0}

not_yet_of : (c : Waiting) → Explained default_numbers (not_yet_told c) → ToldNotYet c
not_yet_of c e =
    let shown : ShownNotYet default_numbers (before_not_yet c) 1 c.commit = explained_shows default_numbers (before_not_yet c) (Session 1) (cause.NotYet c.commit) e in
    let drawn : (shown.term ≡ c.drawn_in) × (c.commit ≡ 2) =
    of_each (OnlyCommit c.drawn_in) (Draw shown.drawn.0 shown.drawn.1 shown.term shown.writer (Some c.commit)) (before_not_yet c) ((refl, refl), (tt, (tt, (tt, (tt, tt))))) shown.drawn.2 in
    record {
      drawn = (same_Some _ _ shown.term_is ∙ drawn.0, drawn.1);
      below = subst (λ (start : ℕ). c.commit < start) (sym (same_Some _ _ shown.start_is)) shown.below;
      unplaced = shown.unplaced;
    }

pub placed_since : Explained default_numbers (not_yet_told (record waiting { placed = 2 })) → ⊥
unfolding ◌∈◌
placed_since e = (not_yet_of (record waiting { placed = 2 }) e).unplaced 3 (inr (inr (inr (inr (inl refl)))))

pub above_the_start : Explained default_numbers (not_yet_told (record waiting { start = 1 })) → ⊥
above_the_start e = let below : 2 < 1 = (not_yet_of (record waiting { start = 1 }) e).below in absurd (omega (arith, below))

pub at_the_start : Explained default_numbers (not_yet_told (record waiting { start = 2 })) → ⊥
at_the_start e = let below : 2 < 2 = (not_yet_of (record waiting { start = 2 }) e).below in absurd (omega (arith, below))

pub other_term : Explained default_numbers (not_yet_told (record waiting { drawn_in = 2 })) → ⊥
other_term e = let same : 1 ≡ 2 = (not_yet_of (record waiting { drawn_in = 2 }) e).drawn.0 in absurd (omega (arith, same))

pub not_drawn : Explained default_numbers (not_yet_told (record waiting { commit = 3 })) → ⊥
not_drawn e = let same : 3 ≡ 2 = (not_yet_of (record waiting { commit = 3 }) e).drawn.1 in absurd (omega (arith, same))

pub placed_by_sessions : Explained (directly default_numbers) (not_yet_told waiting) → ⊥
placed_by_sessions e =
    let shown : ShownNotYet (directly default_numbers) (before_not_yet waiting) 1 2 = explained_shows (directly default_numbers) (before_not_yet waiting) (Session 1) (cause.NotYet 2) e in
    let waits : true ≡ false = shown.waits in
    absurd cc

-- ---- sessions that are gone
pub vanished : Explained default_numbers (gone_told 0)
unfolding ◌∈◌
vanished = shown_explains default_numbers (Vanish 0 ∷ []) (Session 0) cause.Gone refl (inl refl)

abbrev OnlyVanish : ℕ → Item → Type 0
OnlyVanish s (Vanish session) = session ≡ s
OnlyVanish s _ = Unit {0}

pub another_vanished : Explained default_numbers (gone_told 1) → ⊥
another_vanished e =
    let same : 0 ≡ 1 = of_each (OnlyVanish 1) (Vanish 0) (Vanish 1 ∷ []) (refl, tt) (explained_shows default_numbers (Vanish 1 ∷ []) (Session 0) cause.Gone e) in
    absurd (omega (arith, same))

pub vanished_later : Explained default_numbers vanishes_later → ⊥
unfolding ◌∈◌
vanished_later e = explained_between default_numbers [] (Session 0) cause.Gone (Vanish 0 ∷ []) e
