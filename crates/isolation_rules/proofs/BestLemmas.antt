-- The best version so far, after one more item, and in the end.
use Rattle.std.proofs.Common.{◌≡◌, ◌≤◌, ◌<◌, ℕ, List, [], ◌∷◌, ◌++◌, Option, Some, None, option_map, IsSomeAnd, inl, inr, sym, ap, subst, ◌∙◌, arith}
use Rattle.std.proofs.lemmas.Bool.{cases_lt}
use Rattle.history_book.specs.Members.{◌∈◌}
use Rattle.history_book.specs.Isolation.{last_write, Committed, Wrote, Visible, Newest}
use Rattle.history_book.specs.declared.item.Item.{Item}
use Rattle.history_book.specs.declared.item.Item.TheVariants.{Placed}
use Rattle.history_book.proofs.MemberLemmas.{in_front, in_last, in_push, in_old}
use Rattle.isolation_rules.specs.declared.version.Best.{Best}
use Rattle.isolation_rules.specs.Best.{IsWritten, IsBest, BestOf, IsLater, IsReplaced, Sees}
use Rattle.isolation_rules.proofs.WriteLemmas.{last_write_at}

-- an item that is not placed changes nothing
pub best_skip : (h : List Item) (s k : ℕ) (part : List Item) (x : Item) (best : Option Best) → ((t c : ℕ) → Placed t c ≡ x → ⊥) → BestOf h s k part best → BestOf h s k (part ++ x ∷ []) best
best_skip h s k part x None other old = λ t c v m below wrote. old t c v (in_old (Placed t c) x part (other t c) m) below wrote
best_skip h s k part x (Some best) other old = record {
  committed = in_front _ part _ old.committed;
  below = old.below;
  written = old.written;
  greatest = λ t c v m below wrote. old.greatest t c v (in_old (Placed t c) x part (other t c) m) below wrote;
}

start_of : Item → ℕ
start_of (Placed t c) = t
start_of _ = 0

commit_of : Item → ℕ
commit_of (Placed t c) = c
commit_of _ = 0

one_start : (t c u d : ℕ) → Placed t c ≡ Placed u d → t ≡ u
unfolding start_of
one_start t c u d e = ap start_of e

one_commit : (t c u d : ℕ) → Placed t c ≡ Placed u d → c ≡ d
unfolding commit_of
one_commit t c u d e = ap commit_of e

-- nor does a commit that is at or above the start, or below the best so far
pub best_low : (h : List Item) (s k : ℕ) (part : List Item) (u d : ℕ) (best : Option Best) → (IsLater d s best → ⊥) → BestOf h s k part best → BestOf h s k (part ++ Placed u d ∷ []) best
best_low h s k part u d None low old = λ t c v m below wrote. elim (in_push (Placed t c) (Placed u d) part m) [
  | inl there ↦ old t c v there below wrote
  | inr e ↦ let same = one_commit t c u d e in low (omega (arith, same, below))
]
best_low h s k part u d (Some best) low old = record {
  committed = in_front _ part _ old.committed;
  below = old.below;
  written = old.written;
  greatest = λ t c v m below wrote. elim (in_push (Placed t c) (Placed u d) part m) [
    | inl there ↦ old.greatest t c v there below wrote
    | inr e ↦ let same = one_commit t c u d e in elim (cases_lt best.commit d) [
      | inl less ↦ absurd (low (omega (arith, same, below), less))
      | inr more ↦ omega (arith, same, more)
    ]
  ];
}

stays_none : (h : List Item) (s k : ℕ) (part : List Item) (u d : ℕ) (best : Option Best) → last_write h u k ≡ None → BestOf h s k part best → BestOf h s k (part ++ Placed u d ∷ []) best
stays_none h s k part u d None none old = λ t c v m below wrote. elim (in_push (Placed t c) (Placed u d) part m) [
  | inl there ↦ old t c v there below wrote
  | inr e ↦ let same = one_start t c u d e in let clash : Some v ≡ None = sym wrote ∙ ap (λ n. last_write h n k) same ∙ none in absurd (cc)
]
stays_none h s k part u d (Some best) none old = record {
  committed = in_front _ part _ old.committed;
  below = old.below;
  written = old.written;
  greatest = λ t c v m below wrote. elim (in_push (Placed t c) (Placed u d) part m) [
    | inl there ↦ old.greatest t c v there below wrote
    | inr e ↦ let same = one_start t c u d e in let clash : Some v ≡ None = sym wrote ∙ ap (λ n. last_write h n k) same ∙ none in absurd (cc)
  ];
}

-- the commits so far are below one that is later than the best
all_below : (h : List Item) (s k : ℕ) (part : List Item) (d : ℕ) (best : Option Best) → IsLater d s best → BestOf h s k part best → (t c : ℕ) (v : List ℕ) → Committed part t c → c < s → Wrote h t k v → c ≤ d
all_below h s k part d None later old t c v m below wrote = absurd (old t c v m below wrote)
all_below h s k part d (Some best) later old t c v m below wrote = let less = old.greatest t c v m below wrote in let more = later.1 in omega (arith, less, more)

later_below : (s d : ℕ) (best : Option Best) → IsLater d s best → d < s
later_below s d None later = later
later_below s d (Some best) later = later.0

taken : (h : List Item) (s k : ℕ) (part : List Item) (u d : ℕ) (old : Option Best) (new : Option Best) → IsLater d s old → BestOf h s k part old → IsSomeAnd new (λ best. (best.commit ≡ d) × (best.version.found.from ≡ u) × IsWritten h k best.version) → BestOf h s k (part ++ Placed u d ∷ []) new
taken h s k part u d old None later was is = absurd is
taken h s k part u d old (Some best) later was is = record {
  committed = subst (λ (n : ℕ). Placed n best.commit ∈ (part ++ Placed u d ∷ [])) (sym is.1) (subst (λ (n : ℕ). Placed u n ∈ (part ++ Placed u d ∷ [])) (sym is.0) (in_last (Placed u d) part));
  below = let less = later_below s d old later in let same = is.0 in omega (arith, less, same);
  written = is.2;
  greatest = λ t c v m below wrote. elim (in_push (Placed t c) (Placed u d) part m) [
    | inl there ↦ let less = all_below h s k part d old later was t c v there below wrote in let same = is.0 in omega (arith, less, same)
    | inr e ↦ let same = one_commit t c u d e in let at = is.0 in omega (arith, same, at)
  ];
}

-- a later commit takes its place where its transaction wrote the key
pub best_replaced : (h : List Item) (s k : ℕ) (part : List Item) (u d : ℕ) (old new : Option Best) → IsLater d s old → IsReplaced h u d k old new → BestOf h s k part old → BestOf h s k (part ++ Placed u d ∷ []) new
best_replaced h s k part u d old new later changed was = elim changed [
  | inl stays ↦ subst (λ (best : Option Best). BestOf h s k (part ++ Placed u d ∷ []) best) (sym stays.1) (stays_none h s k part u d old stays.0 was)
  | inr takes ↦ taken h s k part u d old new later was takes
]

-- the best of the whole history is what is visible
pub best_none : (h : List Item) (s k : ℕ) → BestOf h s k h None → Visible h s k None
best_none h s k best = λ t c candidate. best t c candidate.wrote.0 candidate.committed candidate.below candidate.wrote.1

pub best_newest : (h : List Item) (s k : ℕ) (best : Best) → IsBest h s k h best → Newest h s k best.version.found
best_newest h s k best is = let value = last_write_at h best.version.found.from k best.version.found.value best.version.place is.written in record {
  commit = best.commit;
  candidate = record { committed = is.committed; below = is.below; wrote = (best.version.found.value, value) };
  value = value;
  greatest = λ t c candidate. is.greatest t c candidate.wrote.0 candidate.committed candidate.below candidate.wrote.1;
}

pub best_seen : (h : List Item) (s k : ℕ) (best : Option Best) → BestOf h s k h best → Sees h s k (option_map (λ held. held.version) best)
best_seen h s k None best = best_none h s k best
best_seen h s k (Some held) best = (best_newest h s k held best, best.written)
