-- What a script that is carried out over split stores comes to.
use Rattle.std.specs.Prelude.{◌≡◌, ℕ, ◌≤◌, List, length, slice_get, Option, Some, Result, Ok, MatchResult}
use Rattle.tick_word.specs.Rule.{seat_limit}
use Rattle.history_book.specs.declared.item.Item.{Item}
use Rattle.script_data.specs.Data.{ScriptData}
use Rattle.session_script.specs.declared.mode.Mode.TheVariants.{Split}
use Rattle.session_script.specs.Script.{script_of}
use Rattle.cluster_core.specs.ClusterModel.{ClusterModel}
use Rattle.thread_scripts.specs.Actors.{actors_of}
use Rattle.split_stores.specs.Logs.{Logged}
use Rattle.split_stores.specs.Merged.{Settled, IsTornInOrder}
use Rattle.split_stores.specs.Merging.{logs_of}
use Rattle.split_stores.specs.Orders.{without_lines}
use Rattle.log_refinement.specs.Follows.{AllBegin, AllFollow, AllFollowSome}
use Rattle.log_refinement.specs.Laws.{AllRise}
use Rattle.split_driver.specs.Runs.{RiseInBounds}
use Rattle.split_driver.specs.declared.stop.SplitStop.{SplitStop}
use Rattle.split_driver.specs.declared.stop.SplitStop.TheVariants as stop

-- ---- scripts
-- the script's ticks are in their bounds
pub record MaySplit (script : ScriptData) : Type 0 where
  pub ticks : RiseInBounds script.lines

-- so is each script that was read for split stores
abbrev pub SplitScriptsMaySplit : Type 0
SplitScriptsMaySplit = (bytes : List ℕ) (script : ScriptData) → script_of bytes Split ≡ Ok script → MaySplit script

-- ---- what comes of it
-- the logs of all actors with lines, each of which is of its actor's lines, in rising ticks, settle into it
pub record SplitsTo (script : ScriptData) (whole : ClusterModel) : Type 0 where
  pub logs : List Logged
  pub follow : AllFollow script (actors_of script) logs
  pub rise : AllRise logs
  pub settled : Settled (without_lines script) (logs_of logs) whole

-- what it has come to is settled from logs in which each line of the script has its first event, once and in the order of its actor's
-- lines: also a line that appends no item. A collect alone may have none, where nothing is there to collect.
pub record CarriedOut (script : ScriptData) (whole : ClusterModel) : Type 0 where
  pub logs : List Logged
  pub all : AllBegin script (actors_of script) logs
  pub settled : Settled (without_lines script) (logs_of logs) whole

-- the logs of all actors with lines, each of which is of a front of its actor's lines, in rising ticks
pub record AreLogs (script : ScriptData) (logs : List Logged) : Type 0 where
  pub fronts : AllFollowSome script (actors_of script) logs
  pub rise : AllRise logs

-- the tick is the first at which an entry of such logs kept something else than its event appends
pub record TearsAt (script : ScriptData) (tick : ℕ) (kept replayed : Option Item) : Type 0 where
  pub logs : List Logged
  pub are : AreLogs script logs
  pub torn : IsTornInOrder (without_lines script) (logs_of logs) tick kept replayed

-- one of such logs has so many entries, which are all the ticks that a seat may draw
pub record IsSpentAt (script : ScriptData) (drawn : ℕ) : Type 0 where
  pub logs : List Logged
  pub are : AreLogs script logs
  pub place : ℕ
  pub log : Logged
  pub there : slice_get logs place ≡ Some log
  pub entries : drawn ≡ length log.entries
  pub all : seat_limit ≤ drawn

-- why none comes: logs are torn, or an actor has drawn all its ticks
abbrev pub SplitStops : ScriptData → SplitStop → Type 0
SplitStops script (stop.Torn tick kept replayed) = TearsAt script tick kept replayed
SplitStops script (stop.Spent drawn) = IsSpentAt script drawn
SplitStops script stop.NoMemory = Unit {0}

abbrev pub Splits : ScriptData → Result ClusterModel SplitStop → Type 0
Splits script r = MatchResult r (SplitsTo script) (SplitStops script)
