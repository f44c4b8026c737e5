-- Of which histories of scripts it holds what users rely on.
use Rattle.std.specs.Prelude.{◌≤◌, List, sum}
use Rattle.stamp_base.specs.SetupNumbers.{AreInRange}
use Rattle.script_data.specs.Data.{ScriptData}
use Rattle.script_data.specs.Ticks.{ticks_of}
use Rattle.service_rules.specs.Service.{KeepsService}
use Rattle.command_semantics.specs.Laws.{IsPlayable}
use Rattle.command_semantics.specs.Orders.{TimedEvent, AllRead, all_played, ticks_made}
use Rattle.command_semantics.specs.Runs.{opening_played, replayed}
use Rattle.turn_rules.specs.declared.turn.Turn.{Turn}
use Rattle.turn_rules.specs.Carried.{carried_items}

-- the history of a script in file order
abbrev pub ScriptsKeepService : Type 0
ScriptsKeepService = (script : ScriptData) → AreInRange script.setup → IsPlayable script 0 script.lines → KeepsService script.setup (replayed script)

-- the history that turns make of a script, whichever they are
abbrev pub TurnsKeepService : Type 0
TurnsKeepService = (script : ScriptData) (turns : List Turn) → AreInRange script.setup → IsPlayable script 0 script.lines → KeepsService script.setup (carried_items script turns)

-- the history of events in any order that read the clocks, and tick no longer than the script's lines in all
abbrev pub OrdersKeepService : Type 0
OrdersKeepService =
    (script : ScriptData) (events : List TimedEvent) → AreInRange script.setup → IsPlayable script 0 script.lines → AllRead script events (opening_played script) → sum (ticks_made events) ≤ ticks_of script.lines →
    KeepsService script.setup (all_played script events (opening_played script)).items
