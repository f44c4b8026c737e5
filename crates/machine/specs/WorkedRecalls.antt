-- Short lists of moves of sessions that remember, and the items of which their histories consist.
use Rattle.std.specs.Prelude.{ℕ, List, [], ◌∷◌, ◌++◌, None, Some}
use Rattle.stamp_base.specs.SetupNumbers.{SetupNumbers, default_numbers}
use Rattle.stamp_base.specs.declared.stores.Mark.TheVariants.{Committed}
use Rattle.history_book.specs.declared.item.Actor.TheVariants.{Session}
use Rattle.history_book.specs.declared.item.Seen.TheVariants as seen
use Rattle.history_book.specs.declared.item.StoreStep.TheVariants as step
use Rattle.history_book.specs.declared.item.Item.{Item}
use Rattle.history_book.specs.declared.item.Item.TheVariants as item
use Rattle.machine.specs.declared.event.Event.{Event}
use Rattle.machine.specs.declared.event.Event.TheVariants as event
use Rattle.machine.specs.Machine.{Move}
use Rattle.machine.specs.WorkedMoves.{working, v, begins, draws, begun_items, drawn_items, placed_items, drawn_events, first_drawn, taken_over, take_over_items, reader_begins, reader_begun, fetched_one}

abbrev pub two_decisions : SetupNumbers
two_decisions = record default_numbers { cache = 2 }

-- ---- a session commits two keys and vanishes, so that its cells stay bare; another one reads both
abbrev pub both_placed : List Event
both_placed = event.Take 0 0 ∷ begins 0 0 0 ++ event.Write 0 0 v ∷ event.Write 0 1 v ∷ draws 0 0 0

abbrev pub first_read : List Event
first_read = event.Answer 0 0 ∷ event.Vanish 0 ∷ begins 1 0 0 ++ event.Fetch 1 1 ∷ []

abbrev pub two_reads : List Event → List Move
two_reads last = working (both_placed ++ event.Put 0 0 ∷ first_read ++ event.Step 1 ∷ event.Fetch 1 0 ∷ last)

abbrev pub reads_key : ℕ → Item
reads_key key = item.Read 1 3 key (Some (record { from = 1; value = v }))

abbrev pub asks_table : Item
asks_table = item.Step (Session 1) (step.Get 1 (Some (Committed 2)))

abbrev pub two_items : List Item → List Item
two_items asked = item.Take 0 0 1 0 10 100 ∷ begun_items 0 0 1 0 1 ++ item.Write 0 1 0 v ∷ item.Write 0 1 1 v ∷ drawn_items 0 0 1 0 1 2 ++ placed_items 0 1 2 ++ item.Vanish 0 ∷ begun_items 1 0 1 0 3 ++ item.Step (Session 1) (step.Fetch 1 1) ∷ asks_table ∷ reads_key 1 ∷ item.Step (Session 1) (step.Fetch 0 1) ∷ asked ++ reads_key 0 ∷ []

-- ---- a reader marks a transaction of the old node, and reads its key again
abbrev pub marked_moves : List Move
marked_moves = working (drawn_events ++ taken_over ++ reader_begins ++ event.Fetch 1 0 ∷ event.Step 1 ∷ event.Step 1 ∷ event.Step 1 ∷ event.Fetch 1 0 ∷ [])

abbrev pub marked_items : List Item
marked_items = first_drawn ++ take_over_items ++ reader_begun ++ fetched_one ∷ item.Step (Session 1) (step.Get 1 None) ∷ item.Mark (Session 1) 1 ∷ item.Step (Session 1) (step.Look 0 1 seen.Bare) ∷ item.Read 1 101 0 None ∷ fetched_one ∷ item.Read 1 101 0 None ∷ []
