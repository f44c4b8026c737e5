-- Short scripts with turns: each asks for one thing, once with all premises and once without one of them. Another session's turns
-- come in between.
use Rattle.std.specs.Prelude.{ℕ, true, false, List, [], ◌∷◌, ◌++◌, None, Some}
use Rattle.stamp_base.specs.declared.stage.Stage.TheVariants.{Persist}
use Rattle.stamp_base.specs.declared.stores.Store.TheVariants.{Cells, Table}
use Rattle.history_book.specs.declared.cause.Cause.TheVariants as cause
use Rattle.history_book.specs.declared.item.Actor.TheVariants.{Clock, Node, Session}
use Rattle.history_book.specs.declared.item.Ending.TheVariants.{Aborted}
use Rattle.history_book.specs.declared.item.StoreStep.TheVariants as step
use Rattle.history_book.specs.declared.item.Item.{Item}
use Rattle.history_book.specs.declared.item.Item.TheVariants as item
use Rattle.script_data.specs.declared.line.Line.{Line}
use Rattle.script_data.specs.declared.line.Target.TheVariants as target
use Rattle.script_data.specs.declared.line.Verb.TheVariants as verb
use Rattle.script_data.specs.Data.{ScriptData}
use Rattle.command_semantics.specs.declared.point.Point.TheVariants.{Opens}
use Rattle.turn_rules.specs.declared.seat.Seat.{Seat}
use Rattle.turn_rules.specs.declared.turn.Turn.{Turn}
use Rattle.turn_rules.specs.declared.turn.Turn.TheVariants as turn
use Rattle.grant_laws.specs.Granted.{line_of}
use Rattle.grant_laws.specs.Lines.{UpToDraw, all_up_to_draw}
use Rattle.grant_laws.specs.Worked.{take, begin, write, commit, of_lines, failing, taking_items, beginning_items as worked_begun, writing_items}

-- ---- a begin, between the turns of another that begins
abbrev other_begin : Line
other_begin = line_of 0 (Session 1) (verb.Begin (target.Node 0))

abbrev pub beginning : ScriptData
beginning = of_lines (take 0 ∷ begin ∷ other_begin ∷ [])

abbrev pub to_begin : UpToDraw
to_begin = record { before = turn.Own (Node 0) 0 ∷ []; aim = 0; asked = turn.Own (Session 1) 0 ∷ []; accepted = turn.Accept 0 1 ∷ [] }

abbrev pub begin_turns : List Turn
begin_turns = all_up_to_draw 0 0 to_begin (turn.Decide 0 1 ∷ turn.Answer 0 0 ∷ [])

abbrev pub before_answer : List Turn
before_answer = all_up_to_draw 0 0 to_begin (turn.Decide 0 1 ∷ [])

abbrev pub beginning_items : List Item
beginning_items = taking_items ++ item.AskBegin 0 0 ∷ item.AskBegin 1 0 ∷ item.Accept 0 0 1 0 ∷ item.Accept 1 0 1 0 ∷ item.Draw 0 0 1 1 None ∷ item.Draw 1 0 1 2 None ∷ item.Begin 0 1 ∷ []

-- the lease has ended when the begin is to be accepted
abbrev pub beginning_late : ScriptData
beginning_late = of_lines (take 0 ∷ begin ∷ line_of 0 Clock (verb.Tick 10) ∷ [])

abbrev pub late_turns : List Turn
late_turns = turn.Own (Node 0) 0 ∷ turn.Own (Session 0) 0 ∷ turn.Own Clock 0 ∷ turn.Accept 0 0 ∷ []

abbrev pub late_items : List Item
late_items = taking_items ++ item.AskBegin 0 0 ∷ item.Tick 10 ∷ item.Refused (Session 0) (cause.Expired 10 10) ∷ []

-- ---- a begin that names the master, its share aimed at the second node, which has taken the record after the first
abbrev pub to_master : UpToDraw
to_master = record { before = turn.Own (Node 0) 0 ∷ turn.Own Clock 0 ∷ turn.Own (Node 1) 0 ∷ []; aim = 1; asked = []; accepted = [] }

abbrev pub master_turns : List Turn
master_turns = all_up_to_draw 0 1 to_master (turn.Answer 1 0 ∷ [])

-- where the session stands that asks for it
abbrev pub master_seat : Seat
master_seat = record { actor = Session 0; place = 0; point = Opens; unawaited = false }

-- its share aimed at the first node
abbrev pub first_turns : List Turn
first_turns = to_master.before ++ turn.Own (Session 0) 0 ∷ turn.Accept 0 0 ∷ []

abbrev pub first_items : List Item
first_items = taking_items ++ item.Tick 12 ∷ item.Take 1 12 2 100 22 200 ∷ item.AskBegin 0 0 ∷ item.Refused (Session 0) (cause.Expired 12 10) ∷ []

-- ---- a commit, between the turns of another that begins
abbrev pub begun : List Turn
begun = turn.Own (Node 0) 0 ∷ turn.Own (Session 0) 0 ∷ turn.Accept 0 0 ∷ turn.Decide 0 0 ∷ turn.Answer 0 0 ∷ []

abbrev pub committing : ScriptData
committing = of_lines (take 0 ∷ begin ∷ write ∷ commit ∷ other_begin ∷ [])

abbrev pub to_commit : UpToDraw
to_commit = record { before = begun ++ turn.Own (Session 0) 0 ∷ []; aim = 0; asked = turn.Own (Session 1) 0 ∷ []; accepted = [] }

abbrev pub commit_turns : List Turn
commit_turns = all_up_to_draw 0 0 to_commit (turn.Accept 0 1 ∷ turn.Put 0 0 ∷ turn.Decide 0 1 ∷ turn.Answer 0 0 ∷ [])

-- where the session stands that asks for it: its third line is the commit
abbrev pub commit_seat : Seat
commit_seat = record { actor = Session 0; place = 2; point = Opens; unawaited = true }

abbrev pub failed_commit_items : List Item
failed_commit_items = writing_items ++ item.AskCommit 0 0 1 ∷ item.AskBegin 1 0 ∷ item.Accept 0 0 1 0 ∷ item.Draw 0 0 1 1 (Some 2) ∷ item.Accept 1 0 1 0 ∷ item.Fault (Node 0) Table ∷ item.Draw 1 0 1 3 None ∷ item.Refused (Session 0) (cause.Open 1) ∷ []

-- ---- a commit that its session places: it is handed over in the place of the put, and placed in that of the answer
abbrev pub direct_turns : List Turn
direct_turns = all_up_to_draw 0 0 to_commit (turn.Accept 0 1 ∷ turn.Answer 0 0 ∷ turn.Decide 0 1 ∷ turn.Own (Session 0) 0 ∷ [])

abbrev pub failed_direct_items : List Item
failed_direct_items = writing_items ++ item.AskCommit 0 0 1 ∷ item.AskBegin 1 0 ∷ item.Accept 0 0 1 0 ∷ item.Draw 0 0 1 1 (Some 2) ∷ item.Accept 1 0 1 0 ∷ item.Step (Session 0) (step.Handed 1 2) ∷ item.Draw 1 0 1 3 None ∷ item.Fault (Session 0) Table ∷ item.Refused (Session 0) (cause.Open 1) ∷ []

-- ---- a begin that is answered too early
-- its commit drawn and its put to come, the first session is in the other's way; the put fails, and so it is in it no more
abbrev pub waiting : ScriptData
waiting = failing Table committing

abbrev pub to_wait : UpToDraw
to_wait = record { before = begun ++ turn.Own (Session 0) 0 ∷ turn.Own (Session 0) 0 ∷ turn.Accept 0 0 ∷ turn.Decide 0 0 ∷ []; aim = 0; asked = []; accepted = [] }

-- answered too early, and again, and then the put
abbrev pub early : List Turn
early = turn.Answer 0 1 ∷ turn.Answer 0 1 ∷ turn.Put 0 0 ∷ []

abbrev pub before_settled : List Turn
before_settled = all_up_to_draw 1 0 to_wait early

abbrev pub wait_turns : List Turn
wait_turns = all_up_to_draw 1 0 to_wait (early ++ turn.Answer 0 1 ∷ [])

abbrev pub wait_items : List Item
wait_items = writing_items ++ item.AskCommit 0 0 1 ∷ item.Accept 0 0 1 0 ∷ item.Draw 0 0 1 1 (Some 2) ∷ item.AskBegin 1 0 ∷ item.Accept 1 0 1 0 ∷ item.Draw 1 0 1 3 None ∷ item.Refused (Session 1) (cause.NotYet 2) ∷ item.Fault (Node 0) Table ∷ item.Begin 1 3 ∷ []

-- ---- lines of one turn
-- the session's line after the begin makes its first turn
abbrev pub one_more : List Turn
one_more = begun ++ turn.Own (Session 0) 0 ∷ []

-- a write that fails: its transaction ends, and what it may have written is erased by a turn more
abbrev pub failed_write_items : List Item
failed_write_items = worked_begun ++ item.Fault (Session 0) Cells ∷ item.End 0 1 Aborted ∷ []

abbrev pub take_turn : List Turn
take_turn = turn.Own (Node 0) 0 ∷ []

abbrev pub take_turns : List Turn
take_turns = turn.Own (Node 0) 0 ∷ turn.Own (Node 1) 0 ∷ []

-- ---- a name that is awaited
abbrev pub p : List ℕ
p = 112 ∷ []

abbrev pub await_line : Line
await_line = line_of 0 (Session 0) (verb.Await p)

abbrev pub awaiting : ScriptData
awaiting = of_lines (await_line ∷ [])

-- where another line posts it
abbrev pub posting : ScriptData
posting = of_lines (await_line ∷ line_of 0 (Session 1) (verb.Post p) ∷ [])

abbrev pub first_seat : Seat
first_seat = record { actor = Session 0; place = 0; point = Opens; unawaited = false }

-- ---- a commit behind a stage that is held
abbrev hold : Line
hold = line_of 0 (Node 0) (verb.Hold Persist)

abbrev pub holding : ScriptData
holding = failing Table (of_lines (take 0 ∷ begin ∷ write ∷ commit ∷ hold ∷ []))

-- up to the draw of the commit
abbrev pub drawn_turns : List Turn
drawn_turns = begun ++ turn.Own (Session 0) 0 ∷ turn.Own (Session 0) 0 ∷ turn.Accept 0 0 ∷ turn.Decide 0 0 ∷ []

-- and then the node holds its persist stage
abbrev pub held_turns : List Turn
held_turns = drawn_turns ++ turn.Own (Node 0) 0 ∷ []
