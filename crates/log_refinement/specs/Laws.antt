-- What holds of the history that logs settle into, which follow the lines of a script.
use Rattle.std.specs.Prelude.{◌≡◌, true, List, All}
use Rattle.stamp_base.specs.SetupNumbers.{AreInRange}
use Rattle.script_data.specs.Data.{ScriptData}
use Rattle.history_book.specs.declared.item.Item.{Item}
use Rattle.command_semantics.specs.Answers.{Answers}
use Rattle.command_semantics.specs.Laws.{IsPlayable, AreLinesOf}
use Rattle.command_semantics.specs.Planned.{Planned}
use Rattle.service_rules.specs.Service.{KeepsService}
use Rattle.cluster_core.specs.ClusterModel.{ClusterModel}
use Rattle.thread_scripts.specs.Actors.{actors_of}
use Rattle.split_stores.specs.Logs.{Logged, ticks_of, rises_above}
use Rattle.split_stores.specs.Merged.{Settled}
use Rattle.split_stores.specs.Merging.{logs_of}
use Rattle.split_stores.specs.Orders.{without_lines}
use Rattle.log_refinement.specs.Follows.{AllFollow}
use Rattle.log_refinement.specs.Served.{Served, IsServedByOutcomes}

-- ---- scripts
-- what a script that is carried out over split stores keeps
pub record IsCarried (script : ScriptData) : Type 0 where
  pub setup : AreInRange script.setup
  pub playable : IsPlayable script 0 script.lines
  pub lines : AreLinesOf script.setup script.lines

-- ---- histories
-- the ticks of each log rise, as those of a seat do by its type
abbrev pub AllRise : List Logged → Type 0
AllRise logs = All (λ log. rises_above 0 (ticks_of log.entries) ≡ true) logs

-- a history that the logs of all actors with lines settle into, each of which is of its actor's lines, answers the script
abbrev pub SettledLogsAnswer : Type 0
SettledLogsAnswer =
    (script : ScriptData) (logs : List Logged) (whole : ClusterModel) → IsCarried script → AllFollow script (actors_of script) logs → AllRise logs → Settled (without_lines script) (logs_of logs) whole → Answers script whole.history

-- and has the faults, ticks and readings that the script plans
abbrev pub SettledLogsArePlanned : Type 0
SettledLogsArePlanned =
    (script : ScriptData) (logs : List Logged) (whole : ClusterModel) → IsCarried script → AllFollow script (actors_of script) logs → AllRise logs → Settled (without_lines script) (logs_of logs) whole → Planned script whole.history

-- and what its sessions are told may be relied on
abbrev pub SettledLogsKeepService : Type 0
SettledLogsKeepService =
    (script : ScriptData) (logs : List Logged) (whole : ClusterModel) → IsCarried script → AllFollow script (actors_of script) logs → AllRise logs → Settled (without_lines script) (logs_of logs) whole → KeepsService script.setup whole.history

-- and serves the script
abbrev pub SettledLogsServe : Type 0
SettledLogsServe =
    (script : ScriptData) (logs : List Logged) (whole : ClusterModel) → IsCarried script → AllFollow script (actors_of script) logs → AllRise logs → Settled (without_lines script) (logs_of logs) whole → Served script whole.history

-- a history that serves a script answers it
abbrev pub ServedHistoriesAnswer : Type 0
ServedHistoriesAnswer = (script : ScriptData) (h : List Item) → Served script h → Answers script h

-- and one that serves it ends asks by their outcomes, where no line of the script makes a stage's event for their sessions
abbrev pub ScriptsWithoutStageLinesAreServed : Type 0
ScriptsWithoutStageLinesAreServed = (script : ScriptData) (h : List Item) → Served script h → IsServedByOutcomes script h
