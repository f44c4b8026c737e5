-- A short script and turns of it, with the history that they make.
use Rattle.std.specs.Prelude.{ℕ, List, [], ◌∷◌, ◌++◌, replicate, None, Some}
use Rattle.stamp_base.specs.SetupNumbers.{default_numbers}
use Rattle.stamp_base.specs.declared.stage.Stage.TheVariants.{Persist}
use Rattle.history_book.specs.declared.cause.Cause.TheVariants as cause
use Rattle.history_book.specs.declared.item.Actor.{Actor}
use Rattle.history_book.specs.declared.item.Actor.TheVariants.{Clock, Node, Session}
use Rattle.history_book.specs.declared.item.Note.TheVariants as note
use Rattle.history_book.specs.declared.item.Item.{Item}
use Rattle.history_book.specs.declared.item.Item.TheVariants as item
use Rattle.script_data.specs.declared.line.Line.{Line}
use Rattle.script_data.specs.declared.line.Target.TheVariants as target
use Rattle.script_data.specs.declared.line.Verb.{Verb}
use Rattle.script_data.specs.declared.line.Verb.TheVariants as verb
use Rattle.script_data.specs.Data.{ScriptData}
use Rattle.turn_rules.specs.declared.turn.Turn.{Turn}
use Rattle.turn_rules.specs.declared.turn.Turn.TheVariants as turn

abbrev line : Actor → Verb → Line
line actor verb = record { number = 0; actor = actor; verb = verb }

abbrev p : List ℕ
p = 112 ∷ []

abbrev v : List ℕ
v = 118 ∷ []

-- a session begins, writes, posts a name and submits; the node awaits the name, holds its persist stage and crashes
abbrev pub script : ScriptData
script = record {
  setup = default_numbers;
  leads = 0 ∷ 0 ∷ [];
  faults = [];
  lines =
      line (Node 0) verb.Take
      ∷ line (Session 0) (verb.Begin (target.Node 0))
      ∷ line (Session 0) (verb.Write 0 v)
      ∷ line (Session 0) (verb.Post p)
      ∷ line (Node 0) (verb.Await p)
      ∷ line (Node 0) (verb.Hold Persist)
      ∷ line (Session 0) (verb.Submit (target.Node 0))
      ∷ line Clock (verb.Tick 5)
      ∷ line (Node 0) verb.Crash
      ∷ line (Session 0) verb.Collect
      ∷ [];
}

-- up to the begin, which waits, while the node waits for the name
abbrev pub asked_turns : List Turn
asked_turns = turn.Own (Node 0) 0 ∷ turn.Own (Session 0) 0 ∷ []

-- up to the crash: the commit is drawn, and its put is held
abbrev pub drawn_turns : List Turn
drawn_turns =
    turn.Accept 0 0 ∷ turn.Decide 0 0 ∷ turn.Answer 0 0 ∷ turn.Own (Session 0) 0 ∷ turn.Own (Session 0) 0 ∷ turn.Own (Node 0) 0 ∷ turn.Own (Node 0) 0 ∷ turn.Own (Session 0) 0 ∷ turn.Accept 0 0 ∷ turn.Decide 0 0 ∷ turn.Own Clock 0 ∷ []

-- the crash ends the request, and so the collect has nothing left to do
abbrev pub whole_turns : List Turn
whole_turns = asked_turns ++ drawn_turns ++ turn.Own (Node 0) 0 ∷ []

abbrev pub items : List Item
items =
    item.Take 0 0 1 0 10 100
    ∷ item.AskBegin 0 0
    ∷ item.Accept 0 0 1 0
    ∷ item.Draw 0 0 1 1 None
    ∷ item.Begin 0 1
    ∷ item.Write 0 1 0 v
    ∷ item.Note (Session 0) (note.Post p)
    ∷ item.Note (Node 0) (note.Await p)
    ∷ item.Note (Node 0) (note.Hold Persist)
    ∷ item.AskCommit 0 0 1
    ∷ item.Accept 0 0 1 0
    ∷ item.Draw 0 0 1 1 (Some 2)
    ∷ item.Tick 5
    ∷ item.Crash 0 1
    ∷ item.Refused (Session 0) (cause.Open 1)
    ∷ []

-- how many lines each actor has passed in the end: the clock, the janitor, two nodes and the sessions
abbrev pub places : List ℕ
places = 1 ∷ 0 ∷ 4 ∷ 0 ∷ 5 ∷ replicate 15 0
