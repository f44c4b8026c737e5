-- The history goes on to show the marks of the commit table.
use Rattle.cause_laws.proofs.Names.{[], ◌∷◌, ◌++◌, List, inl, inr, Fate, Item, in_front, in_back, Pairs, Event, State}
use Rattle.cause_laws.proofs.Names.{stepped, ReachedInvariant, Outcome, OfPlaced, OfOwnPlaced, OfReadDropped}
use Rattle.cause_laws.proofs.Names.{OfReadStepped, OfOutcome, OfOutcomeFailed, OfCompleted, OfSwept, OfSweepFailed}
use Rattle.cause_laws.proofs.Names.{left_by, told_by_outcome, marks_same, marks_behind, placed_marks, each_outcome}
use Rattle.cause_laws.proofs.Names.{AreMarked}
use Rattle.history_book.specs.declared.item.Item.TheVariants as item
use Rattle.machine.specs.MarksTold.{MarksTold}

marked_on : (old new : Pairs) (h items : List Item) → MarksTold old new items → AreMarked old h → AreMarked new (h ++ items)
marked_on old new h items told are = record {
  marked = λ t marked. elim (told t marked) [
    | inl was ↦ let placed = are.marked t was in (placed.0, in_front (item.Mark placed.0 t) h items placed.1)
    | inr (actor, m) ↦ (actor, in_back (item.Mark actor t) h items m)
  ];
}

-- an outcome that changes the table tells the marks that it places
outcome_marks : (w : State) (o : Outcome w) → MarksTold w.pairs (left_by w o).pairs (told_by_outcome w o)
outcome_marks w (OfPlaced k) = placed_marks w.pairs k.it.start k.it.commit _
outcome_marks w (OfOwnPlaced k) = placed_marks w.pairs k.it.start k.it.commit _
outcome_marks w (OfReadDropped k) = k.marks
outcome_marks w (OfReadStepped k) = marks_behind _ _ (k.first ∷ []) _ k.marks
outcome_marks w (OfOutcome k) = k.marks
outcome_marks w (OfOutcomeFailed k) = k.marks
outcome_marks w (OfCompleted k) = k.marks
outcome_marks w (OfSwept k) = k.marks
outcome_marks w (OfSweepFailed k) = k.marks
outcome_marks w o = marks_same w.pairs (told_by_outcome w o)

pub marked_kept : (w : State) (h : List Item) (e : Event) (fate : Fate) → ReachedInvariant w h → AreMarked w.pairs h → AreMarked (stepped w e fate).state.pairs (h ++ (stepped w e fate).items)
marked_kept w h e fate stands are = each_outcome (λ v items. AreMarked v.pairs (h ++ items)) w h e fate stands (λ o. marked_on w.pairs (left_by w o).pairs h (told_by_outcome w o) (outcome_marks w o) are)
