-- What a run on threads comes to.
use Rattle.std.specs.Prelude.{List}
use Rattle.history_book.specs.declared.item.Item.{Item}
use Rattle.script_data.specs.Data.{ScriptData}
use Rattle.command_semantics.specs.Answers.{AnswersOnThreads}
use Rattle.script_service.specs.Promise.{Promise}
use Rattle.turn_rules.specs.declared.turn.Turn.{Turn}
use Rattle.run_board.specs.Playing.{IsResult}

-- The history is what these turns make of the script, which are lawful and whole. It keeps the promise, and answers every line.
pub record RunsTo (script : ScriptData) (history : List Item) (turns : List Turn) : Type 0 where
  pub result : IsResult script history turns
  pub promise : Promise script history
  pub answers : AnswersOnThreads script history
