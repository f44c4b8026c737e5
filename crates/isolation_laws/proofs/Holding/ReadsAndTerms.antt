-- What reads give, where stamps lie, and whose lease stands.
use Rattle.isolation_laws.proofs.Names.{◌≡◌, ℕ, ◌<◌, List, ◌++◌, take, Option, Some, None, ◌⊎◌, inl, inr, refl, ap}
use Rattle.isolation_laws.proofs.Names.{same_Some, Committed, Visible, RightAnswer, Isolated, last_write, Found, Item}
use Rattle.isolation_laws.proofs.Names.{Read, SetupNumbers, AreInRange, State, Move, items_after, history_after}
use Rattle.isolation_laws.proofs.Names.{AreSteady, Steady, ReachedInvariant, Unplaced, IsMarkedFirst, IsLost}
use Rattle.isolation_laws.proofs.Names.{ReadsWhatCommits, DrawsKeepTerms, LeasesAreOfTheTerm}
use Rattle.isolation_laws.proofs.OnceEach.{place_of}
use Rattle.isolation_laws.proofs.Owners.{accepts_now}
use Rattle.isolation_laws.proofs.AlwaysHolds.{histories_are_isolated}
use Rattle.isolation_laws.proofs.Holding.NeverAgain.{marked_first_after, lost_after}

-- ---- reads
visible_commits : (h : List Item) (s key : ℕ) (found : Found) → Visible h s key (Some found) → (found.from ≡ s) ⊎ ((c : ℕ) × Committed h found.from c × (c < s))
visible_commits h s key found newest = inr (newest.commit, newest.candidate.committed, newest.candidate.below)

answer_commits : (h before : List Item) (s key : ℕ) (found : Found) (own : Option (List ℕ)) → RightAnswer h before s key (Some found) own → (found.from ≡ s) ⊎ ((c : ℕ) × Committed h found.from c × (c < s))
answer_commits h before s key found None right = visible_commits h s key found right
answer_commits h before s key found (Some own) (inl is) = inl (ap (λ (f : Found). f.from) (same_Some found _ is))
answer_commits h before s key found (Some own) (inr (listed, newest)) = visible_commits h s key found newest

isolated_reads : (h : List Item) → Isolated h → ReadsWhatCommits h
isolated_reads h isolated session s key found m =
    let at = place_of (Read session s key (Some found)) h m in
    answer_commits h (take at.0 h) s key found (last_write (take at.0 h) s key) (isolated.reads.at at.0 (Read session s key (Some found)) at.1)

pub reads_give_what_commits : (setup : SetupNumbers) (moves : List Move) → AreInRange setup → Steady setup moves → ReadsWhatCommits (history_after setup moves)
reads_give_what_commits setup moves in_range steady = isolated_reads (history_after setup moves) (histories_are_isolated setup moves in_range steady)

-- ---- terms
pub draws_keep_terms : (w : State) (h : List Item) → ReachedInvariant w h → DrawsKeepTerms w h
draws_keep_terms w h both = record {
  own = λ n s m t i commit at drew. (both.holds.numbers.drawn.same s m i.term t n commit i drew at refl).0;
  earlier = λ n s m term t i commit at less drew. both.holds.numbers.drawn.earlier s m term t n commit i drew at less;
}

pub leases_are_of_the_term : (w : State) (h : List Item) → ReachedInvariant w h → LeasesAreOfTheTerm w
leases_are_of_the_term w h both n reading i at steady in_time = accepts_now w.setup w.seen reading n w.nodes w.master i both.holds.numbers.ranges both.holds.numbers.leases at steady in_time

-- ---- never placed
pub marked_is_never_placed : (w : State) (h : List Item) (moves : List Move) (t : ℕ) → ReachedInvariant w h → AreSteady w.setup.skew w.seen moves → IsMarkedFirst w h t → Unplaced (h ++ items_after w moves) t
marked_is_never_placed w h moves t both steady first = (marked_first_after w h moves t both steady first).unplaced

pub lost_is_never_placed : (w : State) (h : List Item) (moves : List Move) (t : ℕ) → ReachedInvariant w h → AreSteady w.setup.skew w.seen moves → IsLost w h t → Unplaced (h ++ items_after w moves) t
lost_is_never_placed w h moves t both steady lost = (lost_after w h moves t both steady lost).unplaced
