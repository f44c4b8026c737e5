-- Short lists of moves of transactions whose reads count, and the items of which their histories consist.
use Rattle.std.specs.Prelude.{ℕ, zero, suc, true, List, [], ◌∷◌, ◌++◌, None, Some}
use Rattle.stamp_base.specs.SetupNumbers.{SetupNumbers, default_numbers}
use Rattle.history_book.specs.declared.cause.Cause.TheVariants as cause
use Rattle.history_book.specs.declared.item.Actor.TheVariants.{Session}
use Rattle.history_book.specs.declared.item.StoreStep.TheVariants as step
use Rattle.history_book.specs.declared.item.Item.{Item}
use Rattle.history_book.specs.declared.item.Item.TheVariants as item
use Rattle.machine.specs.declared.event.Event.{Event}
use Rattle.machine.specs.declared.event.Event.TheVariants as event
use Rattle.machine.specs.Machine.{Move}
use Rattle.machine.specs.WorkedMoves.{working, v, begins, draws, begun_items, drawn_items}

abbrev pub strict_reads : SetupNumbers
strict_reads = record default_numbers { strict = true }

-- a session reads nothing at a key
abbrev pub reads_none : ℕ → ℕ → ℕ → List Item
reads_none session start key = item.Step (Session session) (step.Fetch key 0) ∷ item.Read session start key None ∷ []

-- ---- two transactions each read the key that the other one writes
abbrev pub skew_moves : List Move
skew_moves = working (event.Take 0 0 ∷ begins 0 0 0 ++ begins 1 0 0 ++ event.Fetch 0 0 ∷ event.Fetch 1 1 ∷ event.Write 0 1 v ∷ event.Write 1 0 v ∷ draws 0 0 0 ++ draws 1 0 0)

abbrev pub skew_items : Item → List Item
skew_items last = item.Take 0 0 1 0 10 100 ∷ begun_items 0 0 1 0 1 ++ begun_items 1 0 1 0 2 ++ reads_none 0 1 0 ++ reads_none 1 2 1 ++ item.Write 0 1 1 v ∷ item.Write 1 2 0 v ∷ drawn_items 0 0 1 0 1 3 ++ item.AskCommit 1 0 2 ∷ item.Accept 1 0 1 0 ∷ last ∷ []

-- with strict reads the second to be decided is refused by what it has read, and otherwise it is drawn
abbrev pub read_conflict : Item
read_conflict = item.Refused (Session 1) (cause.Conflict 1 3)

abbrev pub both_drawn : Item
both_drawn = item.Draw 1 0 1 2 (Some 4)

-- ---- a session vanishes while its commit is accepted, and the key that it read is written
abbrev pub left_moves : List Move
left_moves = working (event.Take 0 0 ∷ begins 0 0 0 ++ begins 1 0 0 ++ event.Fetch 1 0 ∷ event.Write 1 1 v ∷ event.AskCommit 1 0 ∷ event.Accept 0 1 0 ∷ event.Vanish 1 ∷ event.Write 0 0 v ∷ draws 0 0 0 ++ event.Decide 0 1 ∷ [])

abbrev pub left_items : List Item
left_items = item.Take 0 0 1 0 10 100 ∷ begun_items 0 0 1 0 1 ++ begun_items 1 0 1 0 2 ++ reads_none 1 2 0 ++ item.Write 1 2 1 v ∷ item.AskCommit 1 0 2 ∷ item.Accept 1 0 1 0 ∷ item.Vanish 1 ∷ item.Write 0 1 0 v ∷ drawn_items 0 0 1 0 1 3 ++ item.Refused (Session 1) (cause.Conflict 0 3) ∷ []

-- ---- as many keys as may be are read; one that is kept is read again, one that was written too, and another one is refused
unfoldable pub fetches_below : ℕ → List Event
fetches_below zero = []
fetches_below (suc key) = fetches_below key ++ event.Fetch 0 key ∷ []

unfoldable pub nones_below : ℕ → List Item
nones_below zero = []
nones_below (suc key) = nones_below key ++ reads_none 0 1 key

abbrev pub full_moves : List Move
full_moves = working (event.Take 0 0 ∷ begins 0 0 0 ++ fetches_below 64 ++ event.Fetch 0 64 ∷ event.Fetch 0 0 ∷ event.Write 0 64 v ∷ event.Fetch 0 64 ∷ [])

abbrev pub full_items : List Item
full_items = item.Take 0 0 1 0 10 100 ∷ begun_items 0 0 1 0 1 ++ nones_below 64 ++ item.Refused (Session 0) cause.TooManyKeys ∷ reads_none 0 1 0 ++ item.Write 0 1 64 v ∷ item.Step (Session 0) (step.Fetch 64 1) ∷ item.Read 0 1 64 (Some (record { from = 1; value = v })) ∷ []
