-- Short lists of moves, and the items of which their histories consist. Nodes and sessions go by their numbers, and the
-- setup is the default one where nothing else is said.
use Rattle.std.specs.Prelude.{ℕ, List, [], ◌∷◌, ◌++◌, map, None, Some}
use Rattle.stamp_base.specs.declared.stores.Mark.TheVariants.{Committed, Invalid}
use Rattle.stamp_base.specs.declared.stores.Store.TheVariants.{Table}
use Rattle.port_io.specs.declared.weather.Fate.TheVariants.{Works, FailsUnchanged, FailsApplied}
use Rattle.history_book.specs.declared.cause.Cause.TheVariants as cause
use Rattle.history_book.specs.declared.item.Actor.TheVariants.{Node, Session, Janitor}
use Rattle.history_book.specs.declared.item.Ending.TheVariants as ending
use Rattle.history_book.specs.declared.item.Seen.TheVariants as seen
use Rattle.history_book.specs.declared.item.StoreStep.TheVariants as step
use Rattle.history_book.specs.declared.item.Item.{Item}
use Rattle.history_book.specs.declared.item.Item.TheVariants as item
use Rattle.machine.specs.declared.event.Event.{Event}
use Rattle.machine.specs.declared.event.Event.TheVariants as event
use Rattle.machine.specs.Machine.{Move}

-- moves whose store calls work
abbrev pub working : List Event → List Move
working events = map (λ e. record { event = e; fate = Works }) events

abbrev pub v : List ℕ
v = 118 ∷ []

-- ---- what sessions do in a row: a session gets its start, at a reading
abbrev pub begins : ℕ → ℕ → ℕ → List Event
begins session node reading = event.AskBegin session node ∷ event.Accept node session reading ∷ event.Decide node session ∷ event.Answer node session ∷ []

-- its commit is asked, accepted and drawn
abbrev pub draws : ℕ → ℕ → ℕ → List Event
draws session node reading = event.AskCommit session node ∷ event.Accept node session reading ∷ event.Decide node session ∷ []

-- its commit is placed and answered
abbrev pub places : ℕ → ℕ → List Event
places session node = event.Put node session ∷ event.Answer node session ∷ []

-- ---- the items of these
abbrev pub begun_items : ℕ → ℕ → ℕ → ℕ → ℕ → List Item
begun_items session node term reading start =
    item.AskBegin session node ∷ item.Accept session node term reading ∷ item.Draw session node term start None ∷ item.Begin session start ∷ []

abbrev pub drawn_items : ℕ → ℕ → ℕ → ℕ → ℕ → ℕ → List Item
drawn_items session node term reading start commit =
    item.AskCommit session node start ∷ item.Accept session node term reading ∷ item.Draw session node term start (Some commit) ∷ []

abbrev pub placed_items : ℕ → ℕ → ℕ → List Item
placed_items session start commit = item.Placed start commit ∷ item.Committed session start commit ∷ []

-- ---- the boundaries of a lease, and of a takeover
abbrev pub boundary_moves : List Move
boundary_moves = working (event.Take 0 0 ∷ event.Tick 9 ∷ begins 0 0 9 ++ event.Tick 10 ∷ event.AskBegin 1 0 ∷ event.Accept 0 1 10 ∷ event.Tick 11 ∷ event.Take 1 11 ∷ event.Tick 12 ∷ event.Take 1 12 ∷ event.Take 0 12 ∷ [])

abbrev pub boundary_items : List Item
boundary_items = item.Take 0 0 1 0 10 100 ∷ item.Tick 9 ∷ begun_items 0 0 1 9 1 ++ item.Tick 10 ∷ item.AskBegin 1 0 ∷ item.Refused (Session 1) (cause.Expired 10 10) ∷ item.Tick 11 ∷ item.Refused (Node 1) (cause.Early 11 10) ∷ item.Tick 12 ∷ item.Take 1 12 2 100 22 200 ∷ item.Refused (Node 0) (cause.Holding 1) ∷ []

-- ---- a transaction that commits, and one that reads what it wrote
abbrev pub plain_moves : List Move
plain_moves = working (event.Take 0 0 ∷ begins 0 0 0 ++ event.Write 0 0 v ∷ draws 0 0 0 ++ places 0 0 ++ event.Step 0 ∷ event.Step 0 ∷ begins 1 0 0 ++ event.Fetch 1 0 ∷ event.AskCommit 1 0 ∷ [])

abbrev pub plain_items : List Item
plain_items = item.Take 0 0 1 0 10 100 ∷ begun_items 0 0 1 0 1 ++ item.Write 0 1 0 v ∷ drawn_items 0 0 1 0 1 2 ++ placed_items 0 1 2 ++ item.Step (Session 0) (step.Shadow 0 1 2) ∷ item.Step (Session 0) (step.Remove 1) ∷ begun_items 1 0 1 0 3 ++ item.Step (Session 1) (step.Fetch 0 1) ∷ item.Read 1 3 0 (Some (record { from = 1; value = v })) ∷ item.End 1 3 ending.ReadOnly ∷ []

-- ---- two transactions write one key, and the first to be decided commits
abbrev pub conflict_moves : List Move
conflict_moves = working (event.Take 0 0 ∷ begins 0 0 0 ++ begins 1 0 0 ++ event.Write 0 0 v ∷ event.Write 1 0 v ∷ draws 0 0 0 ++ places 0 0 ++ event.Step 0 ∷ event.Step 0 ∷ draws 1 0 0 ++ event.Step 1 ∷ [])

abbrev pub conflict_items : List Item
conflict_items = item.Take 0 0 1 0 10 100 ∷ begun_items 0 0 1 0 1 ++ begun_items 1 0 1 0 2 ++ item.Write 0 1 0 v ∷ item.Write 1 2 0 v ∷ drawn_items 0 0 1 0 1 3 ++ placed_items 0 1 3 ++ item.Step (Session 0) (step.Shadow 0 1 3) ∷ item.Step (Session 0) (step.Remove 1) ∷ item.AskCommit 1 0 2 ∷ item.Accept 1 0 1 0 ∷ item.Refused (Session 1) (cause.Conflict 0 3) ∷ item.Step (Session 1) (step.Erase 0 2) ∷ []

-- ---- the first node's session has drawn a commit, and the second node takes the record
abbrev pub drawn_events : List Event
drawn_events = event.Take 0 0 ∷ begins 0 0 0 ++ event.Write 0 0 v ∷ draws 0 0 0

abbrev pub first_drawn : List Item
first_drawn = item.Take 0 0 1 0 10 100 ∷ begun_items 0 0 1 0 1 ++ item.Write 0 1 0 v ∷ drawn_items 0 0 1 0 1 2

abbrev pub taken_over : List Event
taken_over = event.Tick 12 ∷ event.Take 1 12 ∷ []

abbrev pub take_over_items : List Item
take_over_items = item.Tick 12 ∷ item.Take 1 12 2 100 22 200 ∷ []

-- a session of the second node begins
abbrev pub reader_begins : List Event
reader_begins = begins 1 1 12

abbrev pub reader_begun : List Item
reader_begun = begun_items 1 1 2 12 101

abbrev pub fetched_one : Item
fetched_one = item.Step (Session 1) (step.Fetch 0 1)

abbrev pub reads_first : Item
reads_first = item.Read 1 101 0 (Some (record { from = 1; value = v }))

abbrev pub completed_items : List Item
completed_items = item.Step (Session 0) (step.Shadow 0 1 2) ∷ item.Step (Session 0) (step.Remove 1) ∷ []

abbrev pub erased : Item
erased = item.Step (Session 0) (step.Erase 0 1)

-- ---- a reader's mark comes before the put of the old node
abbrev pub late_put_moves : List Move
late_put_moves = working (drawn_events ++ taken_over ++ reader_begins ++ event.Fetch 1 0 ∷ event.Step 1 ∷ event.Step 1 ∷ event.Step 1 ∷ event.Put 0 0 ∷ event.Answer 0 0 ∷ event.Step 0 ∷ [])

abbrev pub late_put_items : List Item
late_put_items = first_drawn ++ take_over_items ++ reader_begun ++ fetched_one ∷ item.Step (Session 1) (step.Get 1 None) ∷ item.Mark (Session 1) 1 ∷ item.Step (Session 1) (step.Look 0 1 seen.Bare) ∷ item.Read 1 101 0 None ∷ item.Step (Node 0) (step.PutFound 1) ∷ item.Refused (Session 0) (cause.Invalid 1) ∷ erased ∷ []

-- ---- the put of the old node comes before the read
abbrev pub early_put_moves : List Move
early_put_moves = working (drawn_events ++ taken_over ++ event.Put 0 0 ∷ reader_begins ++ event.Fetch 1 0 ∷ event.Step 1 ∷ event.Answer 0 0 ∷ event.Step 0 ∷ event.Step 0 ∷ [])

abbrev pub early_put_items : List Item
early_put_items = first_drawn ++ take_over_items ++ item.Placed 1 2 ∷ reader_begun ++ fetched_one ∷ item.Step (Session 1) (step.Get 1 (Some (Committed 2))) ∷ reads_first ∷ item.Committed 0 1 2 ∷ completed_items

-- ---- a commit that was accepted in time is drawn after the takeover
abbrev pub late_draw_moves : List Move
late_draw_moves = working (event.Take 0 0 ∷ begins 0 0 0 ++ event.Write 0 0 v ∷ event.AskCommit 0 0 ∷ event.Accept 0 0 0 ∷ taken_over ++ event.Decide 0 0 ∷ places 0 0 ++ event.Step 0 ∷ event.Step 0 ∷ reader_begins ++ event.Fetch 1 0 ∷ [])

abbrev pub late_draw_items : List Item
late_draw_items = item.Take 0 0 1 0 10 100 ∷ begun_items 0 0 1 0 1 ++ item.Write 0 1 0 v ∷ item.AskCommit 0 0 1 ∷ item.Accept 0 0 1 0 ∷ take_over_items ++ item.Draw 0 0 1 1 (Some 2) ∷ placed_items 0 1 2 ++ completed_items ++ reader_begun ++ fetched_one ∷ reads_first ∷ []

-- ---- the reader's mark lands where a commit was placed, completed and removed since it asked
abbrev pub stray_moves : List Move
stray_moves = working (drawn_events ++ taken_over ++ reader_begins ++ event.Fetch 1 0 ∷ event.Step 1 ∷ places 0 0 ++ event.Step 0 ∷ event.Step 0 ∷ event.Step 1 ∷ event.Step 1 ∷ [])

abbrev pub stray_items : List Item
stray_items = first_drawn ++ take_over_items ++ reader_begun ++ fetched_one ∷ item.Step (Session 1) (step.Get 1 None) ∷ placed_items 0 1 2 ++ completed_items ++ item.Mark (Session 1) 1 ∷ item.Step (Session 1) (step.Look 0 1 (seen.Commit 2)) ∷ reads_first ∷ []

-- ---- a begin waits for the commit that was drawn below it
abbrev pub wait_moves : List Move
wait_moves = working (drawn_events ++ begins 1 0 0 ++ event.Answer 0 1 ∷ event.Put 0 0 ∷ event.Answer 0 1 ∷ event.Answer 0 0 ∷ [])

abbrev pub wait_items : List Item
wait_items = first_drawn ++ item.AskBegin 1 0 ∷ item.Accept 1 0 1 0 ∷ item.Draw 1 0 1 3 None ∷ item.Refused (Session 1) (cause.NotYet 2) ∷ item.Placed 1 2 ∷ item.Begin 1 3 ∷ item.Committed 0 1 2 ∷ []

-- ---- a put that fails: without effect, the session marks its own transaction, and else it finds its commit
abbrev pub unplaced_moves : List Move
unplaced_moves = working drawn_events ++ record { event = event.Put 0 0; fate = FailsUnchanged } ∷ working (event.Answer 0 0 ∷ event.Step 0 ∷ event.Step 0 ∷ event.Step 0 ∷ event.Step 0 ∷ event.Step 0 ∷ [])

abbrev pub resolved_dead : List Item
resolved_dead = item.Step (Session 0) (step.Look 0 1 seen.Bare) ∷ item.Step (Session 0) (step.Get 1 None) ∷ item.Mark (Session 0) 1 ∷ item.Step (Session 0) (step.Look 0 1 seen.Bare) ∷ item.End 0 1 ending.Dead ∷ erased ∷ []

abbrev pub unplaced_items : List Item
unplaced_items = first_drawn ++ item.Fault (Node 0) Table ∷ item.Refused (Session 0) (cause.Open 1) ∷ resolved_dead

abbrev pub unheard_moves : List Move
unheard_moves = working drawn_events ++ record { event = event.Put 0 0; fate = FailsApplied } ∷ working (event.Answer 0 0 ∷ event.Step 0 ∷ event.Step 0 ∷ event.Step 0 ∷ event.Step 0 ∷ [])

abbrev pub unheard_items : List Item
unheard_items = first_drawn ++ item.Placed 1 2 ∷ item.Fault (Node 0) Table ∷ item.Refused (Session 0) (cause.Open 1) ∷ item.Step (Session 0) (step.Look 0 1 seen.Bare) ∷ item.Step (Session 0) (step.Get 1 (Some (Committed 2))) ∷ item.Committed 0 1 2 ∷ completed_items

-- ---- a crash before the put; later a reader finds no cell, and the janitor the mark
abbrev pub crash_moves : List Move
crash_moves = working (drawn_events ++ event.Crash 0 ∷ event.Step 0 ∷ event.Step 0 ∷ event.Step 0 ∷ event.Step 0 ∷ event.Step 0 ∷ taken_over ++ reader_begins ++ event.Fetch 1 0 ∷ event.SweepOpen 1 1 ∷ event.SweepStep ∷ event.SweepStep ∷ [])

abbrev pub crash_items : List Item
crash_items = first_drawn ++ item.Crash 0 1 ∷ item.Refused (Session 0) (cause.Open 1) ∷ resolved_dead ++ take_over_items ++ reader_begun ++ item.Step (Session 1) (step.Fetch 0 0) ∷ item.Read 1 101 0 None ∷ item.Step Janitor (step.Get 1 (Some Invalid)) ∷ item.Step Janitor (step.Keys 1 0) ∷ []

-- ---- a session vanishes with a bare cell, which a sweep of a later term erases
abbrev pub vanish_moves : List Move
vanish_moves = working (event.Take 0 0 ∷ begins 0 0 0 ++ event.Write 0 0 v ∷ event.Vanish 0 ∷ event.Fetch 0 0 ∷ event.SweepOpen 0 1 ∷ event.SweepStep ∷ event.SweepStep ∷ taken_over ++ event.SweepOpen 1 1 ∷ event.SweepStep ∷ event.SweepStep ∷ event.SweepStep ∷ event.SweepStep ∷ event.SweepStep ∷ [])

abbrev pub vanish_items : List Item
vanish_items = item.Take 0 0 1 0 10 100 ∷ begun_items 0 0 1 0 1 ++ item.Write 0 1 0 v ∷ item.Vanish 0 ∷ item.Refused (Session 0) cause.Gone ∷ item.Step Janitor (step.Get 1 None) ∷ item.Refused Janitor (cause.Undecided 1 0) ∷ item.Refused Janitor cause.Idle ∷ take_over_items ++ item.Step Janitor (step.Get 1 None) ∷ item.Mark Janitor 1 ∷ item.Step Janitor (step.Keys 1 1) ∷ item.Step Janitor (step.Erase 0 1) ∷ item.Refused Janitor cause.Idle ∷ []
