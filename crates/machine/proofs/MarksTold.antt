-- For cause_laws too.
-- What a call on the stores leaves of the marks of the commit table, with what it
-- tells. A mark is placed with its item, also where the call failed.
use Rattle.machine.proofs.Names.{◌≡◌, ℕ, List, [], ◌∷◌, ◌++◌, Option, Some, None, ◌⊎◌, inl, inr, refl, sym, ◌∙◌, subst}
use Rattle.machine.proofs.Names.{cases_eq, Mark, CommittedMark, InvalidMark, Fate, Works, FailsUnchanged, FailsApplied}
use Rattle.machine.proofs.Names.{Actor, Item, in_front, in_last, Row, Pairs, mark_of, put_pair, without_committed}
use Rattle.machine.proofs.Names.{entry_or, mark_of-put_pair, mark_of-put_pair_other, unless_committed}
use Rattle.machine.proofs.Names.{mark_of-without_committed, mark_of-without_committed_other, Ask, Told, Met, met}
use Rattle.machine.proofs.Names.{told_mark, pairs_after, told_by, items_met, Marked, MarksTold}
use Rattle.history_book.specs.Members.{◌∈◌}
use Rattle.history_book.specs.declared.item.Item.TheVariants as item
use Rattle.system_parts.specs.declared.asks.Ask.TheVariants as ask

pub marks_same : (pairs : Pairs) (items : List Item) → MarksTold pairs pairs items
marks_same pairs items t marked = inl marked

pub marks_behind : (old new : Pairs) (items more : List Item) → MarksTold old new items → MarksTold old new (items ++ more)
marks_behind old new items more told t marked = elim (told t marked) [
  | inl was ↦ inl was
  | inr (actor, m) ↦ inr (actor, in_front (item.Mark actor t) items more m)
]

-- ---- what a call leaves of the table
put_same : (found : Option Mark) (mark : Mark) → Some (entry_or found mark) ≡ Some InvalidMark → (found ≡ Some InvalidMark) ⊎ ((found ≡ None) × (Some mark ≡ Some InvalidMark))
put_same None mark is = inr (refl, is)
put_same (Some there) mark is = inl is

-- a mark that is there after a put was there, or is what was put
put_marked : (pairs : Pairs) (txn t : ℕ) (mark : Mark) → Marked (put_pair pairs txn mark) t → Marked pairs t ⊎ ((t ≡ txn) × (mark_of pairs txn ≡ None) × (Some mark ≡ Some InvalidMark))
put_marked pairs txn t mark marked = elim (cases_eq t txn) [
  | inr other ↦ inl (sym (mark_of-put_pair_other pairs txn t mark other) ∙ marked)
  | inl same ↦ elim (put_same (mark_of pairs txn) mark (sym (mark_of-put_pair pairs txn mark) ∙ subst (λ (u : ℕ). Marked (put_pair pairs txn mark) u) same marked)) [
    | inl was ↦ inl (subst (λ (u : ℕ). Marked pairs u) (sym same) was)
    | inr new ↦ inr (same, new.0, new.1)
  ]
]

pub placed_marks : (pairs : Pairs) (txn commit : ℕ) (items : List Item) → MarksTold pairs (put_pair pairs txn (CommittedMark commit)) items
placed_marks pairs txn commit items t marked = elim (put_marked pairs txn t (CommittedMark commit) marked) [
  | inl was ↦ inl was
  | inr new ↦ let clash : Some (CommittedMark commit) ≡ Some InvalidMark = new.2 in absurd cc
]

left_marked : (found : Option Mark) → unless_committed found ≡ Some InvalidMark → found ≡ Some InvalidMark
left_marked None is = is
left_marked (Some InvalidMark) is = refl
left_marked (Some (CommittedMark commit)) is = absurd (cc)

removed_marks : (pairs : Pairs) (txn : ℕ) (items : List Item) → MarksTold pairs (without_committed pairs txn) items
removed_marks pairs txn items t marked = elim (cases_eq t txn) [
  | inr other ↦ inl (sym (mark_of-without_committed_other pairs txn t other) ∙ marked)
  | inl same ↦ inl (subst (λ (u : ℕ). Marked pairs u) (sym same) (left_marked (mark_of pairs txn) (sym (mark_of-without_committed pairs txn) ∙ subst (λ (u : ℕ). Marked (without_committed pairs txn) u) same marked)))
]

-- ---- a step on the stores
-- the mark that was placed is told, whether the step worked or failed
marking_told : (actor : Actor) (pairs : Pairs) (txn : ℕ) (items : Told → List Item) → item.Mark actor txn ∈ items (told_mark None) → MarksTold pairs (put_pair pairs txn InvalidMark) (items (told_mark (mark_of pairs txn)))
marking_told actor pairs txn items tells t marked = elim (put_marked pairs txn t InvalidMark marked) [
  | inl was ↦ inl was
  | inr new ↦ inr (actor, subst (λ (u : ℕ). item.Mark actor u ∈ items (told_mark (mark_of pairs txn))) (sym new.0) (subst (λ (found : Option Mark). item.Mark actor txn ∈ items (told_mark found)) (sym new.1) tells))
]

mark_works : (actor : Actor) (txn : ℕ) → item.Mark actor txn ∈ (item.Mark actor txn ∷ [])
mark_works actor txn = in_last (item.Mark actor txn) []

applied_marks : (actor : Actor) (asked : Ask) (rows : List Row) (pairs : Pairs) → MarksTold pairs (pairs_after asked pairs) (items_met actor asked (told_by asked rows pairs) FailsApplied)
applied_marks actor (ask.Mark txn) rows pairs = marking_told actor pairs txn (λ answer. items_met actor (ask.Mark txn) answer FailsApplied) (in_front (item.Mark actor txn) (item.Mark actor txn ∷ []) _ (mark_works actor txn))
applied_marks actor (ask.Remove txn) rows pairs = removed_marks pairs txn _
applied_marks actor _ rows pairs = marks_same pairs _

worked_marks : (actor : Actor) (asked : Ask) (rows : List Row) (pairs : Pairs) → MarksTold pairs (pairs_after asked pairs) (items_met actor asked (told_by asked rows pairs) Works)
worked_marks actor (ask.Mark txn) rows pairs = marking_told actor pairs txn (λ answer. items_met actor (ask.Mark txn) answer Works) (mark_works actor txn)
worked_marks actor (ask.Remove txn) rows pairs = removed_marks pairs txn _
worked_marks actor _ rows pairs = marks_same pairs _

pub met_marks : (actor : Actor) (asked : Ask) (fate : Fate) (rows : List Row) (pairs : Pairs) → let m : Met = met actor asked fate rows pairs in MarksTold pairs m.pairs m.items
met_marks actor asked Works rows pairs = worked_marks actor asked rows pairs
met_marks actor asked FailsUnchanged rows pairs = marks_same pairs _
met_marks actor asked FailsApplied rows pairs = applied_marks actor asked rows pairs
