-- Short scripts: each asks for one thing in its last line, once with all premises and once without one of them.
use Rattle.std.specs.Prelude.{ℕ, true, List, [], ◌∷◌, ◌++◌, None, Some}
use Rattle.stamp_base.specs.SetupNumbers.{default_numbers}
use Rattle.stamp_base.specs.declared.stores.Store.{Store}
use Rattle.stamp_base.specs.declared.stores.Store.TheVariants.{Cells, Table}
use Rattle.port_io.specs.declared.weather.Fate.TheVariants.{FailsUnchanged}
use Rattle.history_book.specs.declared.cause.Cause.TheVariants as cause
use Rattle.history_book.specs.declared.item.Actor.TheVariants.{Clock, Node, Session}
use Rattle.history_book.specs.declared.item.Ending.TheVariants.{Aborted}
use Rattle.history_book.specs.declared.item.StoreStep.TheVariants as step
use Rattle.history_book.specs.declared.item.Item.{Item}
use Rattle.history_book.specs.declared.item.Item.TheVariants as item
use Rattle.script_data.specs.declared.line.Line.{Line}
use Rattle.script_data.specs.declared.line.Target.TheVariants as target
use Rattle.script_data.specs.declared.line.Verb.{Verb}
use Rattle.script_data.specs.declared.line.Verb.TheVariants as verb
use Rattle.script_data.specs.Data.{ScriptData}
use Rattle.command_semantics.specs.Runs.{Played, lines_played, opening_played}
use Rattle.grant_laws.specs.Granted.{line_of}

abbrev v : List ℕ
v = 118 ∷ []

-- ---- lines
abbrev pub take : ℕ → Line
take node = line_of 0 (Node node) verb.Take

abbrev pub tick : ℕ → Line
tick by = line_of 0 Clock (verb.Tick by)

abbrev pub begin : Line
begin = line_of 0 (Session 0) (verb.Begin (target.Node 0))

abbrev pub write : Line
write = line_of 0 (Session 0) (verb.Write 0 v)

abbrev read : Line
read = line_of 0 (Session 0) (verb.Read 0)

abbrev pub commit : Line
commit = line_of 0 (Session 0) (verb.Commit (target.Node 0))

-- ---- scripts
-- a script of these lines, no call of which fails
abbrev pub of_lines : List Line → ScriptData
of_lines lines = record { setup = default_numbers; leads = 0 ∷ 0 ∷ []; faults = []; lines = lines }

-- the first call on the store fails without effect
abbrev pub failing : Store → ScriptData → ScriptData
failing store script = record script { faults = (store, 1, FailsUnchanged) ∷ [] }

-- what these lines come to
abbrev pub after : ScriptData → List Line → Played
after script lines = lines_played script lines (opening_played script)

-- by another time of the base clock
abbrev pub at_time : ℕ → Played → Played
at_time clock p = record p { clock = clock }

-- ---- a take
abbrev pub taking : ScriptData
taking = of_lines (take 0 ∷ [])

abbrev pub taking_items : List Item
taking_items = item.Take 0 0 1 0 10 100 ∷ []

abbrev pub taking_again : ScriptData
taking_again = of_lines (take 0 ∷ take 1 ∷ [])

abbrev pub before_taking_again : Played
before_taking_again = after taking_again (take 0 ∷ [])

abbrev pub taking_again_items : List Item
taking_again_items = taking_items ++ item.Refused (Node 1) (cause.Early 0 10) ∷ []

-- ---- a begin
abbrev pub beginning : ScriptData
beginning = of_lines (take 0 ∷ begin ∷ [])

abbrev pub before_beginning : Played
before_beginning = after beginning (take 0 ∷ [])

abbrev pub beginning_items : List Item
beginning_items = taking_items ++ item.AskBegin 0 0 ∷ item.Accept 0 0 1 0 ∷ item.Draw 0 0 1 1 None ∷ item.Begin 0 1 ∷ []

abbrev pub beginning_late : ScriptData
beginning_late = of_lines (take 0 ∷ tick 10 ∷ begin ∷ [])

abbrev pub before_beginning_late : Played
before_beginning_late = after beginning_late (take 0 ∷ tick 10 ∷ [])

abbrev pub beginning_late_items : List Item
beginning_late_items = taking_items ++ item.Tick 10 ∷ item.AskBegin 0 0 ∷ item.Refused (Session 0) (cause.Expired 10 10) ∷ []

-- ---- a write
abbrev pub writing : ScriptData
writing = of_lines (take 0 ∷ begin ∷ write ∷ [])

abbrev pub before_writing : Played
before_writing = after writing (take 0 ∷ begin ∷ [])

abbrev pub writing_items : List Item
writing_items = beginning_items ++ item.Write 0 1 0 v ∷ []

abbrev pub failed_write_items : List Item
failed_write_items = beginning_items ++ item.Fault (Session 0) Cells ∷ item.End 0 1 Aborted ∷ item.Step (Session 0) (step.Erase 0 1) ∷ []

-- ---- a read
abbrev pub reading : ScriptData
reading = of_lines (take 0 ∷ begin ∷ read ∷ [])

abbrev pub before_reading : Played
before_reading = after reading (take 0 ∷ begin ∷ [])

abbrev pub reading_items : List Item
reading_items = beginning_items ++ item.Step (Session 0) (step.Fetch 0 0) ∷ item.Read 0 1 0 None ∷ []

abbrev pub failed_read_items : List Item
failed_read_items = beginning_items ++ item.Fault (Session 0) Cells ∷ []

-- ---- a read that comes to cells without a shadow: of a transaction that was let go where its undo failed, and of its session's next
abbrev other_begin : Line
other_begin = line_of 0 (Session 1) (verb.Begin (target.Node 0))

abbrev left_lines : List Line
left_lines = take 0 ∷ begin ∷ write ∷ line_of 0 (Session 0) verb.Abort ∷ begin ∷ write ∷ other_begin ∷ []

abbrev pub undoing : ScriptData
undoing = of_lines (left_lines ++ line_of 0 (Session 1) (verb.Read 0) ∷ [])

-- the second call on the cells is the one that erases
abbrev pub letting_go : ScriptData
letting_go = record undoing { faults = (Cells, 2, FailsUnchanged) ∷ [] }

abbrev pub before_left : ScriptData → Played
before_left script = after script left_lines

-- ---- a commit
abbrev pub committing : ScriptData
committing = of_lines (take 0 ∷ begin ∷ write ∷ commit ∷ [])

abbrev pub before_committing : Played
before_committing = after committing (take 0 ∷ begin ∷ write ∷ [])

abbrev asking_items : List Item
asking_items = writing_items ++ item.AskCommit 0 0 1 ∷ item.Accept 0 0 1 0 ∷ item.Draw 0 0 1 1 (Some 2) ∷ []

abbrev pub committing_items : List Item
committing_items = asking_items ++ item.Placed 1 2 ∷ item.Committed 0 1 2 ∷ item.Step (Session 0) (step.Shadow 0 1 2) ∷ item.Step (Session 0) (step.Remove 1) ∷ []

abbrev pub failed_commit_items : List Item
failed_commit_items = asking_items ++ item.Fault (Node 0) Table ∷ item.Refused (Session 0) (cause.Open 1) ∷ []

-- ---- a commit whose transaction read what another writes, whose commit is drawn meanwhile
abbrev pub strictly : ScriptData → ScriptData
strictly script = record script { setup = record script.setup { strict = true } }

abbrev of_other : Verb → Line
of_other verb = line_of 0 (Session 1) verb

abbrev of_node : Verb → Line
of_node verb = line_of 0 (Node 0) verb

abbrev pub before_last : List Line
before_last =
    take 0 ∷ begin ∷ read ∷ line_of 0 (Session 0) (verb.Write 1 v)
    ∷ of_other (verb.Begin (target.Node 0)) ∷ of_other (verb.Write 0 v) ∷ of_other (verb.AskCommit 0)
    ∷ of_node (verb.Accept 1) ∷ of_node (verb.Decide 1) ∷ []

abbrev pub crossing : ScriptData
crossing = of_lines (before_last ++ commit ∷ [])

abbrev pub before_crossing : Played
before_crossing = after crossing before_last

abbrev pub refused_crossing_items : List Item
refused_crossing_items =
    reading_items ++ item.Write 0 1 1 v
    ∷ item.AskBegin 1 0 ∷ item.Accept 1 0 1 0 ∷ item.Draw 1 0 1 2 None ∷ item.Begin 1 2 ∷ item.Write 1 2 0 v
    ∷ item.AskCommit 1 0 2 ∷ item.Accept 1 0 1 0 ∷ item.Draw 1 0 1 2 (Some 3)
    ∷ item.AskCommit 0 0 1 ∷ item.Accept 0 0 1 0 ∷ item.Refused (Session 0) (cause.Conflict 0 3)
    ∷ item.Step (Session 0) (step.Erase 1 1) ∷ []

-- ---- lines that name the master, once its second holder has taken the record
abbrev pub master_begin : Line
master_begin = line_of 0 (Session 0) (verb.Begin target.Master)

abbrev pub master_commit : Line
master_commit = line_of 0 (Session 0) (verb.Commit target.Master)

abbrev pub after_two : List Line
after_two = take 0 ∷ tick 12 ∷ take 1 ∷ []

abbrev pub asking_master : ScriptData
asking_master = of_lines (after_two ++ master_begin ∷ write ∷ master_commit ∷ [])

abbrev pub before_master_begin : Played
before_master_begin = after asking_master after_two

abbrev pub before_master_commit : Played
before_master_commit = after asking_master (after_two ++ master_begin ∷ write ∷ [])

-- the second node has not taken it: the first is still the one that took it last
abbrev pub asking_first : ScriptData
asking_first = of_lines (take 0 ∷ tick 12 ∷ master_begin ∷ [])

abbrev pub asking_first_items : List Item
asking_first_items = taking_items ++ item.Tick 12 ∷ item.AskBegin 0 0 ∷ item.Refused (Session 0) (cause.Expired 12 10) ∷ []

-- ---- a commit that its session places
abbrev pub directly : ScriptData → ScriptData
directly script = record script { setup = record script.setup { direct = true } }

abbrev pub before_direct : Played
before_direct = after (directly committing) (take 0 ∷ begin ∷ write ∷ [])

abbrev pub failed_direct_items : List Item
failed_direct_items = asking_items ++ item.Step (Session 0) (step.Handed 1 2) ∷ item.Fault (Session 0) Table ∷ item.Refused (Session 0) (cause.Open 1) ∷ []

-- a begin that comes between the hand-over and the placing waits for nothing
abbrev pub direct_begin : ScriptData
direct_begin = directly (of_lines (take 0 ∷ begin ∷ write ∷ line_of 0 (Session 0) (verb.Submit (target.Node 0)) ∷ other_begin ∷ []))

abbrev pub direct_begin_items : List Item
direct_begin_items = asking_items ++ item.AskBegin 1 0 ∷ item.Accept 1 0 1 0 ∷ item.Draw 1 0 1 3 None ∷ item.Begin 1 3 ∷ []
