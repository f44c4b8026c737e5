-- One step on the stores for a step machine: what it changes, what it answers, and the items that show it.
use Rattle.std.specs.Prelude.{ℕ, List, [], ◌∷◌, ◌++◌, Option, None, Some}
use Rattle.stamp_base.specs.declared.stores.Store.{Store}
use Rattle.stamp_base.specs.declared.stores.Store.TheVariants.{Cells, Table}
use Rattle.stamp_base.specs.declared.stores.Mark as mark
use Rattle.stamp_base.specs.declared.stores.Mark.TheVariants.{Committed as CommittedMark, Invalid as InvalidMark}
use Rattle.port_io.specs.declared.weather.Fate.{Fate}
use Rattle.port_io.specs.declared.weather.Fate.TheVariants.{Works, FailsApplied}
use Rattle.port_io.specs.Fates.{fated}
use Rattle.history_book.specs.declared.item.Actor.{Actor}
use Rattle.history_book.specs.declared.item.Seen.{Seen}
use Rattle.history_book.specs.declared.item.Seen.TheVariants as seen
use Rattle.history_book.specs.declared.item.StoreStep.TheVariants as step
use Rattle.history_book.specs.declared.item.Item.{Item}
use Rattle.history_book.specs.declared.item.Item.TheVariants as item
use Rattle.system_parts.specs.declared.rows.Cell.{Cell}
use Rattle.system_parts.specs.Rows.{Row, looked, with_shadow, without_bare}
use Rattle.system_parts.specs.Pairs.{Pairs, mark_of, put_pair, without_committed}
use Rattle.system_parts.specs.declared.asks.Ask.{Ask}
use Rattle.system_parts.specs.declared.asks.Ask.TheVariants as ask
use Rattle.system_parts.specs.declared.asks.Told.{Told}
use Rattle.system_parts.specs.declared.asks.Told.TheVariants as told

-- the store that a step asks
abbrev pub store_of : Ask → Store
store_of (ask.Get txn) = Table
store_of (ask.Mark txn) = Table
store_of (ask.Look key txn) = Cells
store_of (ask.Shadow key txn commit) = Cells
store_of (ask.Remove txn) = Table
store_of (ask.Erase key txn) = Cells
store_of (ask.Keys txn) = Cells

-- ---- what a step changes
abbrev pub rows_after : Ask → List Row → List Row
rows_after (ask.Shadow key txn commit) rows = with_shadow rows key txn commit
rows_after (ask.Erase key txn) rows = without_bare rows key txn
rows_after _ rows = rows

abbrev pub pairs_after : Ask → Pairs → Pairs
pairs_after (ask.Mark txn) pairs = put_pair pairs txn InvalidMark
pairs_after (ask.Remove txn) pairs = without_committed pairs txn
pairs_after _ pairs = pairs

-- ---- what a step is told
abbrev pub told_entry : Option mark.Mark → Told
told_entry None = told.Absent
told_entry (Some InvalidMark) = told.Invalid
told_entry (Some (CommittedMark commit)) = told.Committed commit

-- a mark that was placed, or the entry that was found
abbrev pub told_mark : Option mark.Mark → Told
told_mark None = told.Marked
told_mark found = told_entry found

abbrev pub told_shadow : Option ℕ → Told
told_shadow None = told.Bare
told_shadow (Some commit) = told.Shadowed commit

abbrev pub told_cell : Option Cell → Told
told_cell None = told.Gone
told_cell (Some cell) = told_shadow cell.shadow

abbrev pub told_by : Ask → List Row → Pairs → Told
told_by (ask.Get txn) rows pairs = told_entry (mark_of pairs txn)
told_by (ask.Mark txn) rows pairs = told_mark (mark_of pairs txn)
told_by (ask.Look key txn) rows pairs = told_cell (looked rows key txn)
told_by _ rows pairs = told.Done

-- ---- the items
abbrev pub entry_of : Told → Option mark.Mark
entry_of told.Invalid = Some InvalidMark
entry_of (told.Committed commit) = Some (CommittedMark commit)
entry_of _ = None

abbrev pub seen_of : Told → Seen
seen_of told.Gone = seen.Gone
seen_of (told.Shadowed commit) = seen.Commit commit
seen_of _ = seen.Bare

-- a mark was placed, or an entry was found in its place
abbrev pub mark_item : Actor → ℕ → Option mark.Mark → Item
mark_item actor txn None = item.Mark actor txn
mark_item actor txn (Some found) = item.Step actor (step.MarkFound txn found)

abbrev pub step_item : Actor → Ask → Told → Item
step_item actor (ask.Get txn) answer = item.Step actor (step.Get txn (entry_of answer))
step_item actor (ask.Mark txn) answer = mark_item actor txn (entry_of answer)
step_item actor (ask.Look key txn) answer = item.Step actor (step.Look key txn (seen_of answer))
step_item actor (ask.Shadow key txn commit) answer = item.Step actor (step.Shadow key txn commit)
step_item actor (ask.Remove txn) answer = item.Step actor (step.Remove txn)
step_item actor (ask.Erase key txn) answer = item.Step actor (step.Erase key txn)
step_item actor (ask.Keys txn) answer = item.Step actor (step.Keys txn 0)

-- of what a failed step did all the same, only a mark that was placed is shown
abbrev pub mark_kept : Actor → Ask → Told → List Item
mark_kept actor (ask.Mark txn) told.Marked = item.Mark actor txn ∷ []
mark_kept actor _ _ = []

abbrev pub effect_items : Actor → Ask → Told → Fate → List Item
effect_items actor asked answer FailsApplied = mark_kept actor asked answer
effect_items actor asked answer _ = []

-- ---- the whole step
-- what a step leaves of the cells and the table, its items, and its answer; none where the store failed
pub record Met : Type 0 where
  pub rows : List Row
  pub pairs : Pairs
  pub items : List Item
  pub told : Option Told

abbrev pub items_met : Actor → Ask → Told → Fate → List Item
items_met actor asked answer Works = step_item actor asked answer ∷ []
items_met actor asked answer fate = effect_items actor asked answer fate ++ item.Fault actor (store_of asked) ∷ []

abbrev pub told_under : Fate → Told → Option Told
told_under Works answer = Some answer
told_under fate answer = None

abbrev pub met : Actor → Ask → Fate → List Row → Pairs → Met
met actor asked fate rows pairs = record {
  rows = fated fate rows (rows_after asked rows);
  pairs = fated fate pairs (pairs_after asked pairs);
  items = items_met actor asked (told_by asked rows pairs) fate;
  told = told_under fate (told_by asked rows pairs);
}
