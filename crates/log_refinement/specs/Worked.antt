-- Small examples of what is owed of an ask, and of asks that have ended.
use Rattle.std.specs.Prelude.{ℕ, List, [], ◌∷◌, None}
use Rattle.stamp_base.specs.SetupNumbers.{default_numbers}
use Rattle.history_book.specs.declared.cause.Cause.TheVariants as cause
use Rattle.history_book.specs.declared.item.Actor.TheVariants.{Node, Session}
use Rattle.history_book.specs.declared.item.Item.{Item}
use Rattle.history_book.specs.declared.item.Item.TheVariants as item
use Rattle.script_data.specs.declared.line.Line.{Line}
use Rattle.script_data.specs.declared.line.Target.TheVariants as target
use Rattle.script_data.specs.declared.line.Verb.TheVariants as verb
use Rattle.script_data.specs.Data.{ScriptData}
use Rattle.log_refinement.specs.Served.{Begun, Asks}

-- the node has no request of the session
abbrev pub no_request : ℕ → ℕ → Item
no_request node session = item.Refused (Node node) (cause.NoRequest session)

-- a session begins, and a node has these lines
abbrev pub script_with : List Line → ScriptData
script_with lines = record { setup = default_numbers; leads = 0 ∷ 0 ∷ []; faults = []; lines = record { number = 0; actor = Session 0; verb = verb.Begin (target.Node 0) } ∷ lines }

abbrev pub alone : ScriptData
alone = script_with []

-- the node accepts requests of this session
abbrev pub with_stage : ℕ → ScriptData
with_stage session = script_with (record { number = 0; actor = Node 0; verb = verb.Accept session } ∷ [])

-- the session has asked, and these items stand since
abbrev pub asked_and : List Item → List Item
asked_and since = item.AskBegin 0 0 ∷ since

abbrev pub asks_and : List Item → Begun
asks_and since = Asks 0 (record { node = 0; start = None }) since
