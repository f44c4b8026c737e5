-- The short histories of nodes that are full.
use Rattle.std.proofs.Common.{◌≡◌, ℕ, ◌==◌, ◌<◌, Bool, true, false, List, [], ◌++◌, refl, sym, ◌∙◌, arith}
use Rattle.std.proofs.lemmas.Bool.{eqb-true}
use Rattle.stamp_base.specs.SetupNumbers.{SetupNumbers, default_numbers}
use Rattle.history_book.specs.declared.cause.Cause.TheVariants as cause
use Rattle.history_book.specs.declared.item.Actor.TheVariants.{Session}
use Rattle.history_book.specs.declared.item.Item.{Item}
use Rattle.cause_rules.specs.OpenAsks.{open_asks, open_asks_from}
use Rattle.cause_rules.specs.Refusals.{ShownFull}
use Rattle.cause_rules.specs.Explained.{Explained}
use Rattle.cause_rules.specs.WorkedHistories.{crash_of}
use Rattle.cause_rules.specs.WorkedRequests.{two_slots, before_full, full_told, begun, begin_refused, committed, handed, asked}
use Rattle.cause_rules.proofs.WorkedRefusals.{shown_explains, explained_shows}

-- ---- two asks are open at the node 0
pub all_taken : Explained two_slots (full_told 0 [] 2)
unfolding open_asks_from
all_taken = shown_explains two_slots (before_full 0 []) (Session 2) (cause.Full 2) refl (record { all = refl; node = 0; open_there = refl })

pub taken_again : Explained two_slots (full_told 0 (begun ++ asked) 2)
unfolding open_asks_from
taken_again = shown_explains two_slots (before_full 0 (begun ++ asked)) (Session 2) (cause.Full 2) refl (record { all = refl; node = 0; open_there = refl })

pub another_crashed : Explained two_slots (full_told 0 (crash_of 1) 2)
unfolding open_asks_from
another_crashed = shown_explains two_slots (before_full 0 (crash_of 1)) (Session 2) (cause.Full 2) refl (record { all = refl; node = 0; open_there = refl })

full_shown : (setup : SetupNumbers) (node : ℕ) (later : List Item) (in_flight : ℕ) → Explained setup (full_told node later in_flight) → ShownFull setup (before_full node later) in_flight
full_shown setup node later in_flight = explained_shows setup (before_full node later) (Session 2) (cause.Full in_flight)

-- ---- the number is that of the slots
pub more_slots : Explained default_numbers (full_told 0 [] 2) → ⊥
more_slots e = let same : 2 ≡ 64 = (full_shown default_numbers 0 [] 2 e).all in absurd (omega (arith, same))

pub fewer_asks : Explained two_slots (full_told 0 begun 1) → ⊥
fewer_asks e = let same : 1 ≡ 2 = (full_shown two_slots 0 begun 1 e).all in absurd (omega (arith, same))

-- ---- no node has two
-- so many asks are open at the node 0, and none elsewhere
record OpenAt (h : List Item) (count : ℕ) : Type 0 where
  here : (n : ℕ) → (0 == n) ≡ true → open_asks h n ≡ count
  elsewhere : (n : ℕ) → (0 == n) ≡ false → open_asks h n ≡ 0

not_two : (h : List Item) (count n : ℕ) (here : Bool) → count < 2 → OpenAt h count → (0 == n) ≡ here → open_asks h n ≡ 2 → ⊥
not_two h count n true few at is two = let same : count ≡ 2 = sym (at.here n is) ∙ two in absurd (omega (arith, few, same))
not_two h count n false few at is two = let same : 0 ≡ 2 = sym (at.elsewhere n is) ∙ two in absurd (omega (arith, same))

not_full : (later : List Item) (count : ℕ) → count < 2 → OpenAt (before_full 0 later) count → Explained two_slots (full_told 0 later 2) → ⊥
not_full later count few at e =
    let shown : ShownFull two_slots (before_full 0 later) 2 = full_shown two_slots 0 later 2 e in
    not_two (before_full 0 later) count shown.node (0 == shown.node) few at refl shown.open_there

open_begun : OpenAt (before_full 0 begun) 1
unfolding open_asks_from
open_begun = record { here = λ n is. rw (is) refl; elsewhere = λ n is. rw (is) refl }

pub begin_answered : Explained two_slots (full_told 0 begun 2) → ⊥
begin_answered = not_full begun 1 (omega arith) open_begun

open_refused : OpenAt (before_full 0 begin_refused) 1
unfolding open_asks_from
open_refused = record { here = λ n is. rw (is) refl; elsewhere = λ n is. rw (is) refl }

pub refused_for_good : Explained two_slots (full_told 0 begin_refused 2) → ⊥
refused_for_good = not_full begin_refused 1 (omega arith) open_refused

open_committed : OpenAt (before_full 0 committed) 1
unfolding open_asks_from
open_committed = record { here = λ n is. rw (is) refl; elsewhere = λ n is. rw (is) refl }

pub commit_answered : Explained two_slots (full_told 0 committed 2) → ⊥
commit_answered = not_full committed 1 (omega arith) open_committed

open_handed : OpenAt (before_full 0 handed) 1
unfolding open_asks_from
open_handed = record { here = λ n is. rw (is) refl; elsewhere = λ n is. rw (is) refl }

pub commit_handed : Explained two_slots (full_told 0 handed 2) → ⊥
commit_handed = not_full handed 1 (omega arith) open_handed

open_crashed : OpenAt (before_full 0 (crash_of 0)) 0
unfolding open_asks_from
open_crashed = record { here = λ n is. rw (is) refl; elsewhere = λ n is. rw (is) refl }

pub crashed_since : Explained two_slots (full_told 0 (crash_of 0) 2) → ⊥
crashed_since = not_full (crash_of 0) 0 (omega arith) open_crashed

-- ---- one ask at each of two nodes
one_or_none : (n : ℕ) (first second : Bool) → (0 == n) ≡ first → (1 == n) ≡ second → open_asks (before_full 1 []) n ≡ 2 → ⊥
unfolding open_asks_from
one_or_none n true true is_0 is_1 two = let same : 0 ≡ 1 = eqb-true 0 n is_0 ∙ sym (eqb-true 1 n is_1) in absurd (omega (arith, same))
one_or_none n true false is_0 is_1 two = let count : open_asks (before_full 1 []) n ≡ 1 = rw (is_0, is_1) refl in let same : 1 ≡ 2 = sym count ∙ two in absurd (omega (arith, same))
one_or_none n false true is_0 is_1 two = let count : open_asks (before_full 1 []) n ≡ 1 = rw (is_0, is_1) refl in let same : 1 ≡ 2 = sym count ∙ two in absurd (omega (arith, same))
one_or_none n false false is_0 is_1 two = let count : open_asks (before_full 1 []) n ≡ 0 = rw (is_0, is_1) refl in let same : 0 ≡ 2 = sym count ∙ two in absurd (omega (arith, same))

pub at_two_nodes : Explained two_slots (full_told 1 [] 2) → ⊥
at_two_nodes e =
    let shown : ShownFull two_slots (before_full 1 []) 2 = full_shown two_slots 1 [] 2 e in
    one_or_none shown.node (0 == shown.node) (1 == shown.node) refl refl shown.open_there
