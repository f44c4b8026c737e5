-- What is promised of the history of a script, however it is carried out.
use Rattle.std.specs.Prelude.{List}
use Rattle.history_book.specs.declared.item.Item.{Item}
use Rattle.history_book.specs.Isolation.{Isolated}
use Rattle.cause_rules.specs.Explained.{Explained}
use Rattle.cause_rules.specs.Strict.{SerialIfStrict}
use Rattle.script_data.specs.Data.{ScriptData}
use Rattle.command_semantics.specs.Planned.{Planned}
use Rattle.service_rules.specs.Service.{KeepsService}

-- The history is snapshot isolated, is serial where the script asks for strict reads, shows the cause of every refusal, has the
-- faults, times and readings that the script plans, and what its sessions are told may be relied on.
pub record Promise (script : ScriptData) (history : List Item) : Type 0 where
  pub isolated : Isolated history
  pub serial : SerialIfStrict script.setup history
  pub explained : Explained script.setup history
  pub planned : Planned script history
  pub service : KeepsService script.setup history
