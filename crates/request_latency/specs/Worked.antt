-- A run in which a begin and a commit take as many turns as a request can.
use Rattle.std.specs.Prelude.{ℕ, List, [], ◌∷◌, ◌++◌, None, Some}
use Rattle.stamp_base.specs.SetupNumbers.{default_numbers}
use Rattle.stamp_base.specs.declared.stores.Store.TheVariants.{Table}
use Rattle.port_io.specs.declared.weather.Fate.TheVariants.{FailsUnchanged}
use Rattle.history_book.specs.declared.cause.Cause.TheVariants as cause
use Rattle.history_book.specs.declared.item.Actor.{Actor}
use Rattle.history_book.specs.declared.item.Actor.TheVariants.{Node, Session}
use Rattle.history_book.specs.declared.item.Item.{Item}
use Rattle.history_book.specs.declared.item.Item.TheVariants as item
use Rattle.script_data.specs.declared.line.Line.{Line}
use Rattle.script_data.specs.declared.line.Target.TheVariants as target
use Rattle.script_data.specs.declared.line.Verb.{Verb}
use Rattle.script_data.specs.declared.line.Verb.TheVariants as verb
use Rattle.script_data.specs.Data.{ScriptData}
use Rattle.turn_rules.specs.declared.turn.Turn.{Turn}
use Rattle.turn_rules.specs.declared.turn.Turn.TheVariants as turn

abbrev line : Actor → Verb → Line
line actor verb = record { number = 0; actor = actor; verb = verb }

abbrev v : List ℕ
v = 118 ∷ []

-- ranges have one stamp each; a session commits a write, whose put fails, and another begins meanwhile
abbrev pub script : ScriptData
script = record {
  setup = record default_numbers { range = 1 };
  leads = 0 ∷ 0 ∷ [];
  faults = (Table, 1, FailsUnchanged) ∷ [];
  lines =
      line (Node 0) verb.Take
      ∷ line (Session 0) (verb.Begin (target.Node 0))
      ∷ line (Session 0) (verb.Write 0 v)
      ∷ line (Session 0) (verb.Commit (target.Node 0))
      ∷ line (Session 1) (verb.Begin (target.Node 0))
      ∷ [];
}

-- up to both asks
abbrev pub before : List Turn
before =
    turn.Own (Node 0) 0 ∷ turn.Own (Session 0) 0 ∷ turn.Accept 0 0 ∷ turn.Decide 0 0 ∷ turn.Answer 0 0 ∷ turn.Own (Session 0) 0 ∷ turn.Own (Session 0) 0 ∷ turn.Own (Session 1) 0 ∷ []

-- the commit is accepted, and then the begin; each finds no stamp at first, and the begin is answered too early once
abbrev pub behind_begin : List Turn
behind_begin =
    turn.Decide 0 0 ∷ turn.Extend 0 ∷ turn.Decide 0 0 ∷ turn.Decide 0 1 ∷ turn.Extend 0 ∷ turn.Decide 0 1 ∷ turn.Answer 0 1 ∷ turn.Put 0 0 ∷ turn.Answer 0 1 ∷ turn.Answer 0 0 ∷ []

abbrev pub behind_commit : List Turn
behind_commit = turn.Accept 0 1 ∷ behind_begin

abbrev pub all_turns : List Turn
all_turns = before ++ turn.Accept 0 0 ∷ behind_commit

-- each turn appends an item
abbrev pub items : List Item
items =
    item.Take 0 0 1 0 10 1
    ∷ item.AskBegin 0 0
    ∷ item.Accept 0 0 1 0
    ∷ item.Draw 0 0 1 1 None
    ∷ item.Begin 0 1
    ∷ item.Write 0 1 0 v
    ∷ item.AskCommit 0 0 1
    ∷ item.AskBegin 1 0
    ∷ item.Accept 0 0 1 0
    ∷ item.Accept 1 0 1 0
    ∷ item.Refused (Session 0) (cause.NoStamp 1)
    ∷ item.Extend 0 1 2
    ∷ item.Draw 0 0 1 1 (Some 2)
    ∷ item.Refused (Session 1) (cause.NoStamp 2)
    ∷ item.Extend 0 1 3
    ∷ item.Draw 1 0 1 3 None
    ∷ item.Refused (Session 1) (cause.NotYet 2)
    ∷ item.Fault (Node 0) Table
    ∷ item.Begin 1 3
    ∷ item.Refused (Session 0) (cause.Open 1)
    ∷ []
