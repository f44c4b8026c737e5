-- An outcome places nothing that is marked before it is placed, and nothing that is neither open nor in flight.
use Rattle.isolation_laws.proofs.Names.{Outcome, OfPlaced, OfOwnPlaced, OfAnsweredBegin, OfReadDropped, OfReadStepped}
use Rattle.isolation_laws.proofs.Names.{OfOutcome, OfOutcomeFailed, OfCompleted, OfSwept, OfSweepFailed, left_by}
use Rattle.isolation_laws.proofs.Names.{told_by_outcome, ◌≡◌, ℕ, List, [], ◌∷◌, ◌++◌, append_assoc, ◌⊎◌, inl, inr, refl}
use Rattle.isolation_laws.proofs.Names.{sym, ◌∙◌, ap, subst, none-some, InvalidMark, Committed, Item, Begin, Placed}
use Rattle.isolation_laws.proofs.Names.{in_front, in_push, read_ask, settle_ask, mark_of, State, pairs_after, Marked}
use Rattle.isolation_laws.proofs.Names.{Begun, Live, IsolationInvariant, IsMarkedFirst, IsLost, AllQuiet}
use Rattle.isolation_laws.proofs.Pushed.{old_placed}
use Rattle.isolation_laws.proofs.Holding.IsolatedItems.{Stamping, StampsNone, StampsPlaced, StampsBegin, stamping, placed_old}
use Rattle.isolation_laws.proofs.Stores.StoresStay.{MarksStay, marks_put, marks_after, marks_may, marks_if}
use Rattle.isolation_laws.proofs.Stores.LiveAfter.{live_answered_begin}
use Rattle.isolation_laws.proofs.Numbers.Placings.{PlacedPending, placed_item, placed_live}
use Rattle.isolation_laws.proofs.Requests.RequestsOfBegins.{start_unbegun}
use Rattle.isolation_laws.proofs.Holding.LeftAlone.{alone}

-- ---- what an outcome places
placed_same : (t c u d : ℕ) → Placed t c ≡ Placed u d → t ≡ u
placed_same t c u d same = cc

placed_first : (w : State) (h : List Item) (p : PlacedPending w) (rest : List Item) (t c : ℕ) → AllQuiet rest → Committed (h ++ placed_item w p ∷ rest) t c → Committed h t c ⊎ (t ≡ p.coming.start)
placed_first w h p rest t c quiet m =
    let x : Item = placed_item w p in
    let split : Committed ((h ++ x ∷ []) ++ rest) t c = subst (λ (all : List Item). Committed all t c) (sym (append_assoc h (x ∷ []) rest)) m in
    elim (in_push (Placed t c) x h (old_placed (h ++ x ∷ []) rest t c quiet split)) [
      | inl old ↦ inl old
      | inr now ↦ inr (placed_same t c p.coming.start p.commit now)
    ]

begin_places : (h : List Item) (s b t c : ℕ) → Committed (h ++ Begin s b ∷ []) t c → Committed h t c
begin_places h s b t c m = elim (in_push (Placed t c) (Begin s b) h m) [
  | inl old ↦ old
  | inr now ↦ absurd (cc)
]

placed_by : (w : State) (h items : List Item) (t c : ℕ) → Stamping w items → Committed (h ++ items) t c → Committed h t c ⊎ ((p : PlacedPending w) × (t ≡ p.coming.start))
placed_by w h items t c (StampsNone none) m = inl (placed_old h items t c none m)
placed_by w h items t c (StampsPlaced p rest quiet is) m = elim (placed_first w h p rest t c quiet (subst (λ (xs : List Item). Committed (h ++ xs) t c) is m)) [
  | inl old ↦ inl old
  | inr now ↦ inr (p, now)
]
placed_by w h items t c (StampsBegin k is) m = inl (begin_places h k.session k.start t c (subst (λ (xs : List Item). Committed (h ++ xs) t c) is m))

-- ---- marks stay
pub marks_kept : (w : State) (o : Outcome w) → MarksStay w.pairs (left_by w o).pairs
marks_kept w (OfPlaced k) = marks_put w.pairs k.it.start _
marks_kept w (OfOwnPlaced k) = marks_put w.pairs k.it.start _
marks_kept w (OfReadDropped k) = marks_may w.pairs k.pairs k.pairs_are
marks_kept w (OfReadStepped k) = marks_after (read_ask k.r) w.pairs
marks_kept w (OfOutcome k) = marks_after (settle_ask k.x) w.pairs
marks_kept w (OfOutcomeFailed k) = marks_may w.pairs k.pairs k.pairs_are
marks_kept w (OfCompleted k) = marks_if w.pairs (pairs_after k.asked w.pairs) k.applied (marks_after k.asked w.pairs)
marks_kept w (OfSwept k) = marks_after k.asked w.pairs
marks_kept w (OfSweepFailed k) = marks_if w.pairs (pairs_after k.asked w.pairs) k.applied (marks_after k.asked w.pairs)
marks_kept w _ = λ u marked. marked

-- ---- nothing becomes live again
live_kept : (w : State) (h : List Item) (o : Outcome w) (s t : ℕ) → IsolationInvariant w h → Begun h s t → Live (left_by w o).clients (left_by w o).nodes t → Live w.clients w.nodes t
live_kept w h (OfAnsweredBegin k) s t holds begun live = elim (live_answered_begin w k t live) [
  | inl old ↦ old
  | inr now ↦ absurd (start_unbegun w h k s holds (subst (Begun h s) now begun))
]
live_kept w h o s t holds begun live = (alone w h o holds).live refl t live

-- ---- one outcome
no_mark : (w : State) (p : PlacedPending w) (t : ℕ) → Marked w.pairs t → t ≡ p.coming.start → ⊥
no_mark w p t marked same = none-some InvalidMark (sym p.free ∙ (ap (mark_of w.pairs) (sym same) ∙ marked))

pub marked_outcome : (w : State) (h : List Item) (o : Outcome w) (t : ℕ) → IsolationInvariant w h → IsMarkedFirst w h t → IsMarkedFirst (left_by w o) (h ++ told_by_outcome w o) t
marked_outcome w h o t holds first = record {
  marked = marks_kept w o t first.marked;
  unplaced = λ c m. elim (placed_by w h (told_by_outcome w o) t c (stamping w h o holds) m) [
    | inl old ↦ first.unplaced c old
    | inr now ↦ no_mark w now.0 t first.marked now.1
  ];
}

pub lost_outcome : (w : State) (h : List Item) (o : Outcome w) (t : ℕ) → IsolationInvariant w h → IsLost w h t → IsLost (left_by w o) (h ++ told_by_outcome w o) t
lost_outcome w h o t holds lost = record {
  session = lost.session;
  begun = in_front (Begin lost.session t) h (told_by_outcome w o) lost.begun;
  dead = λ live. lost.dead (live_kept w h o lost.session t holds lost.begun live);
  unplaced = λ c m. elim (placed_by w h (told_by_outcome w o) t c (stamping w h o holds) m) [
    | inl old ↦ lost.unplaced c old
    | inr now ↦ lost.dead (subst (λ u. Live w.clients w.nodes u) (sym now.1) (placed_live w now.0))
  ];
}
