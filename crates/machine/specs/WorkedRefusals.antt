-- Short lists of moves without a look at the commit table, and the items of which their histories consist.
use Rattle.std.specs.Prelude.{ℕ, ◌^◌, List, [], ◌∷◌, ◌++◌, None, Some}
use Rattle.stamp_base.specs.SetupNumbers.{SetupNumbers, default_numbers}
use Rattle.stamp_base.specs.declared.stores.Store.TheVariants.{Cells, Master}
use Rattle.port_io.specs.declared.weather.Fate.TheVariants.{FailsApplied}
use Rattle.history_book.specs.declared.cause.Cause.{Cause}
use Rattle.history_book.specs.declared.cause.Cause.TheVariants as cause
use Rattle.history_book.specs.declared.item.Actor.TheVariants.{Node, Session, Janitor}
use Rattle.history_book.specs.declared.item.Ending.TheVariants as ending
use Rattle.history_book.specs.declared.item.StoreStep.TheVariants as step
use Rattle.history_book.specs.declared.item.Item.{Item}
use Rattle.history_book.specs.declared.item.Item.TheVariants as item
use Rattle.machine.specs.declared.event.Event.TheVariants as event
use Rattle.machine.specs.Machine.{Move}
use Rattle.machine.specs.WorkedMoves.{working, v, begins, draws, begun_items, drawn_items}

-- ---- a transaction reads what it wrote last, and is undone
abbrev pub own_moves : List Move
own_moves = working (event.Take 0 0 ∷ begins 0 0 0 ++ event.Write 0 0 [] ∷ event.Write 0 0 v ∷ event.Fetch 0 0 ∷ event.Abort 0 ∷ event.Step 0 ∷ event.Step 0 ∷ [])

abbrev pub own_items : List Item
own_items = item.Take 0 0 1 0 10 100 ∷ begun_items 0 0 1 0 1 ++ item.Write 0 1 0 [] ∷ item.Write 0 1 0 v ∷ item.Step (Session 0) (step.Fetch 0 1) ∷ item.Read 0 1 0 (Some (record { from = 1; value = v })) ∷ item.End 0 1 ending.Aborted ∷ item.Step (Session 0) (step.Erase 0 1) ∷ item.Refused (Session 0) cause.Idle ∷ []

-- ---- events that come out of their order
abbrev pub order_moves : List Move
order_moves = working (event.AskBegin 0 0 ∷ event.Renew 0 0 ∷ event.Write 0 0 v ∷ event.SweepStep ∷ event.SweepOpen 0 1 ∷ event.Take 0 0 ∷ event.Take 0 0 ∷ event.Accept 0 0 0 ∷ event.AskBegin 0 0 ∷ event.AskBegin 0 0 ∷ event.Decide 0 0 ∷ event.Answer 0 0 ∷ event.Step 0 ∷ event.Heal 0 ∷ event.Accept 0 0 0 ∷ event.Put 0 0 ∷ [])

abbrev pub order_items : List Item
order_items = item.Refused (Session 0) (cause.NoOracle 0) ∷ item.Refused (Node 0) (cause.NoOracle 0) ∷ item.Refused (Session 0) cause.NoTransaction ∷ item.Refused Janitor cause.Idle ∷ item.Refused Janitor (cause.NoOracle 0) ∷ item.Take 0 0 1 0 10 100 ∷ item.Refused (Node 0) (cause.Holding 1) ∷ item.Refused (Node 0) (cause.NoRequest 0) ∷ item.AskBegin 0 0 ∷ item.Refused (Session 0) cause.Busy ∷ item.Refused (Node 0) (cause.NoRequest 0) ∷ item.Refused (Node 0) (cause.NoRequest 0) ∷ item.Refused (Session 0) cause.Idle ∷ item.Refused (Session 0) cause.Idle ∷ item.Accept 0 0 1 0 ∷ item.Refused (Node 0) (cause.NoRequest 0) ∷ []

-- ---- the stamps end: one range has them all
abbrev pub one_range : SetupNumbers
one_range = record default_numbers { range = 2 ^ 62 }

abbrev pub end_moves : List Move
end_moves = working (event.Take 0 0 ∷ event.Extend 0 ∷ event.Tick 12 ∷ event.Take 1 12 ∷ [])

abbrev pub end_items : List Item
end_items = item.Take 0 0 1 0 10 (2 ^ 62) ∷ item.Refused (Node 0) (cause.Spent (2 ^ 62)) ∷ item.Tick 12 ∷ item.Refused (Node 1) (cause.Spent (2 ^ 62)) ∷ []

-- ---- a take and a write that fail and take effect
abbrev pub fault_moves : List Move
fault_moves = record { event = event.Take 0 0; fate = FailsApplied } ∷ working (event.AskBegin 0 0 ∷ event.Take 0 0 ∷ event.Tick 12 ∷ event.Take 0 12 ∷ begins 0 0 12) ++ record { event = event.Write 0 0 v; fate = FailsApplied } ∷ working (event.Step 0 ∷ [])

abbrev pub fault_items : List Item
fault_items = item.Take 0 0 1 0 10 100 ∷ item.Fault (Node 0) Master ∷ item.Refused (Session 0) (cause.NoOracle 0) ∷ item.Refused (Node 0) (cause.Early 0 10) ∷ item.Tick 12 ∷ item.Take 0 12 2 100 22 200 ∷ begun_items 0 0 2 12 101 ++ item.Fault (Session 0) Cells ∷ item.End 0 101 ending.Aborted ∷ item.Step (Session 0) (step.Erase 0 101) ∷ []

-- ---- a range of two stamps is used up, extended, and then the term is over
abbrev pub two_stamps : SetupNumbers
two_stamps = record default_numbers { range = 2 }

abbrev pub range_moves : List Move
range_moves = working (event.Take 0 0 ∷ begins 0 0 0 ++ begins 1 0 0 ++ event.AskBegin 2 0 ∷ event.Accept 0 2 0 ∷ event.Decide 0 2 ∷ event.Decide 0 2 ∷ event.Extend 0 ∷ event.Decide 0 2 ∷ event.Answer 0 2 ∷ begins 3 0 0 ++ event.Write 2 1 v ∷ event.AskCommit 2 0 ∷ event.Accept 0 2 0 ∷ event.Tick 12 ∷ event.Take 1 12 ∷ event.Decide 0 2 ∷ event.Extend 0 ∷ event.Decide 0 2 ∷ event.Step 2 ∷ [])

abbrev pub range_items : List Item
range_items = item.Take 0 0 1 0 10 2 ∷ begun_items 0 0 1 0 1 ++ begun_items 1 0 1 0 2 ++ item.AskBegin 2 0 ∷ item.Accept 2 0 1 0 ∷ item.Refused (Session 2) (cause.NoStamp 2) ∷ item.Extend 0 1 4 ∷ item.Draw 2 0 1 3 None ∷ item.Begin 2 3 ∷ begun_items 3 0 1 0 4 ++ item.Write 2 3 1 v ∷ item.AskCommit 2 0 3 ∷ item.Accept 2 0 1 0 ∷ item.Tick 12 ∷ item.Take 1 12 2 4 22 6 ∷ item.Refused (Session 2) (cause.NoStamp 4) ∷ item.Refused (Node 0) (cause.Replaced 2) ∷ item.Refused (Session 2) (cause.Replaced 2) ∷ item.Step (Session 2) (step.Erase 1 3) ∷ []

-- ---- a begin that was accepted in time is answered after a takeover; its commit is refused by either node
abbrev pub late_moves : ℕ → List Move
late_moves node = working (event.Take 0 0 ∷ event.AskBegin 0 0 ∷ event.Accept 0 0 0 ∷ event.Tick 12 ∷ event.Take 1 12 ∷ event.Decide 0 0 ∷ event.Answer 0 0 ∷ event.Fetch 0 0 ∷ event.Write 0 1 v ∷ event.AskCommit 0 node ∷ event.Accept node 0 12 ∷ event.Step 0 ∷ [])

abbrev pub late_items : ℕ → Item → List Item
late_items node refusal = item.Take 0 0 1 0 10 100 ∷ item.AskBegin 0 0 ∷ item.Accept 0 0 1 0 ∷ item.Tick 12 ∷ item.Take 1 12 2 100 22 200 ∷ item.Draw 0 0 1 1 None ∷ item.Begin 0 1 ∷ item.Step (Session 0) (step.Fetch 0 0) ∷ item.Read 0 1 0 None ∷ item.Write 0 1 1 v ∷ item.AskCommit 0 node 1 ∷ refusal ∷ item.Step (Session 0) (step.Erase 1 1) ∷ []

abbrev pub expired_late : Item
expired_late = item.Refused (Session 0) (cause.Expired 12 10)

abbrev pub old_late : Item
old_late = item.Refused (Session 0) (cause.OldEpoch 1 100)

-- ---- buckets of two: three commits on keys of one bucket, the first of which it forgets, and then a commit of an older start
abbrev pub small_buckets : SetupNumbers
small_buckets = record default_numbers { buckets = 4; width = 2 }

abbrev pub hidden_moves : ℕ → List Move
hidden_moves key = working (event.Take 0 0 ∷ begins 0 0 0 ++ begins 1 0 0 ++ begins 2 0 0 ++ begins 3 0 0 ++ event.Write 1 0 v ∷ event.Write 2 4 v ∷ event.Write 3 8 v ∷ event.Write 0 key v ∷ draws 1 0 0 ++ draws 2 0 0 ++ draws 3 0 0 ++ draws 0 0 0 ++ event.Step 0 ∷ [])

abbrev pub hidden_items : ℕ → Cause → List Item
hidden_items key why = item.Take 0 0 1 0 10 100 ∷ begun_items 0 0 1 0 1 ++ begun_items 1 0 1 0 2 ++ begun_items 2 0 1 0 3 ++ begun_items 3 0 1 0 4 ++ item.Write 1 2 0 v ∷ item.Write 2 3 4 v ∷ item.Write 3 4 8 v ∷ item.Write 0 1 key v ∷ drawn_items 1 0 1 0 2 5 ++ drawn_items 2 0 1 0 3 6 ++ drawn_items 3 0 1 0 4 7 ++ item.AskCommit 0 0 1 ∷ item.Accept 0 0 1 0 ∷ item.Refused (Session 0) why ∷ item.Step (Session 0) (step.Erase key 1) ∷ []

-- the key that was forgotten, one that was never written, and one that is kept
abbrev pub forgotten : Cause
forgotten = cause.Hidden 0 5

abbrev pub unwritten : Cause
unwritten = cause.Hidden 12 5

abbrev pub kept : Cause
kept = cause.Conflict 4 6
