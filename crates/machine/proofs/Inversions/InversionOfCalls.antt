-- What one step on the stores shows and changes.
use Rattle.machine.proofs.Names.{◌≡◌, ℕ, List, [], ◌∷◌, ◌++◌, Option, Some, None, inl, inr, refl, All-append, Mark}
use Rattle.machine.proofs.Names.{Store, Fate, Works, FailsUnchanged, FailsApplied, Actor, Row, Pairs, Ask, Told, ask_at}
use Rattle.machine.proofs.Names.{rows_after, pairs_after, entry_of, mark_item, step_item, mark_kept, effect_items}
use Rattle.machine.proofs.Names.{Plain, AllPlain, NoList, MayHaveMarked}
use Rattle.history_book.specs.declared.item.Item.TheVariants as item
use Rattle.system_parts.specs.declared.asks.Ask.TheVariants as ask
use Rattle.system_parts.specs.declared.asks.Told.TheVariants as told
use Rattle.system_parts.specs.declared.resolve.SettlePoint.{SettlePoint}
use Rattle.system_parts.specs.declared.resolve.SettlePoint.TheVariants as point
use Rattle.machine.proofs.Outcome.PlainItems.{none_plain, one_plain}

mark_plain : (actor : Actor) (txn : ℕ) (found : Option Mark) → Plain (mark_item actor txn found)
mark_plain actor txn None = (refl, refl)
mark_plain actor txn (Some mark) = (refl, refl)

pub step_plain : (actor : Actor) (asked : Ask) (answer : Told) → NoList asked → Plain (step_item actor asked answer)
step_plain actor (ask.Mark txn) answer no_list = mark_plain actor txn (entry_of answer)
step_plain actor (ask.Keys txn) answer no_list = absurd (no_list txn refl)
step_plain actor _ answer no_list = (refl, refl)

mark_kept_plain : (actor : Actor) (asked : Ask) (answer : Told) → AllPlain (mark_kept actor asked answer)
mark_kept_plain actor (ask.Mark txn) told.Marked = one_plain (item.Mark actor txn) refl refl
mark_kept_plain actor _ _ = none_plain

effect_plain : (actor : Actor) (asked : Ask) (answer : Told) (fate : Fate) → AllPlain (effect_items actor asked answer fate)
effect_plain actor asked answer Works = none_plain
effect_plain actor asked answer FailsUnchanged = none_plain
effect_plain actor asked answer FailsApplied = mark_kept_plain actor asked answer

-- what a failed step shows
pub failed_plain : (actor : Actor) (asked : Ask) (answer : Told) (fate : Fate) (store : Store) → AllPlain (effect_items actor asked answer fate ++ item.Fault actor store ∷ [])
failed_plain actor asked answer fate store = All-append Plain (effect_items actor asked answer fate) (item.Fault actor store ∷ []) (effect_plain actor asked answer fate) (one_plain (item.Fault actor store) refl refl)

-- ---- a resolve lists no keys, changes no cell, and the table only by a mark
pub resolve_no_list : (key txn : ℕ) (at : SettlePoint) → NoList (ask_at key txn at)
resolve_no_list key txn point.FirstLook t is = cc
resolve_no_list key txn point.Table t is = cc
resolve_no_list key txn point.Marking t is = cc
resolve_no_list key txn (point.LastLook met) t is = cc

pub resolve_rows : (key txn : ℕ) (at : SettlePoint) (rows : List Row) → rows_after (ask_at key txn at) rows ≡ rows
resolve_rows key txn point.FirstLook rows = refl
resolve_rows key txn point.Table rows = refl
resolve_rows key txn point.Marking rows = refl
resolve_rows key txn (point.LastLook met) rows = refl

pub resolve_marks : (key txn : ℕ) (at : SettlePoint) (pairs : Pairs) → MayHaveMarked pairs (pairs_after (ask_at key txn at) pairs)
resolve_marks key txn point.FirstLook pairs = inl refl
resolve_marks key txn point.Table pairs = inl refl
resolve_marks key txn point.Marking pairs = inr (txn, refl)
resolve_marks key txn (point.LastLook met) pairs = inl refl
