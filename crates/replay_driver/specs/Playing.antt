-- How far a script was carried out.
use Rattle.std.specs.Prelude.{◌≡◌, ℕ, Bool, true, false, take, drop, Option, None, Some, Result, Ok, Err, IsOkAnd, IsErr}
use Rattle.stamp_base.specs.declared.memory.NoMemory.{NoMemory}
use Rattle.stamp_base.specs.declared.stores.Store.{Store}
use Rattle.port_io.specs.declared.weather.Fate.{Fate}
use Rattle.machine.specs.declared.event.Event.{Event}
use Rattle.event_parts.specs.declared.stopped.Stopped.{Stopped}
use Rattle.event_parts.specs.declared.stopped.Stopped.TheVariants as stopped
use Rattle.script_data.specs.Data.{ScriptData}
use Rattle.script_data.specs.declared.line.Verb.{Verb}
use Rattle.script_data.specs.declared.line.Verb.TheVariants as verb
use Rattle.command_semantics.specs.declared.point.Point.{Point}
use Rattle.command_semantics.specs.declared.point.Point.TheVariants.{Opens, Over}
use Rattle.command_semantics.specs.declared.point.Interruption.{Interruption}
use Rattle.command_semantics.specs.declared.point.Interruption.TheVariants.{Faulted}
use Rattle.command_semantics.specs.Interruptions.{halt_of, refused_by}
use Rattle.command_semantics.specs.Runs.{Played, step_of, played, lines_played, opening_played}
use Rattle.command_semantics.specs.Laws.{IsReached, IsPlayable}
use Rattle.cluster_core.specs.ClusterModel.{ClusterModel}
use Rattle.planned_cluster.specs.Standing.{StandsAt}

-- what the first lines of a script come to
abbrev pub played_to : ScriptData → ℕ → Played
played_to script count = lines_played script (take count script.lines) (opening_played script)

-- the first lines were carried out, and the others can be
pub record IsPlayedTo (script : ScriptData) (count : ℕ) (whole : ClusterModel) (clock : ℕ) (ahead : Store → ℕ → Fate) : Type 0 where
  pub stands : StandsAt script (played_to script count) whole clock ahead
  pub reached : IsReached script (played_to script count)
  pub playable : IsPlayable script (played_to script count).clock (drop count script.lines)

-- this is said of what a call answered: how its event stopped, or that memory was refused
abbrev pub IsSaidOf : Result Unit Stopped → Result (Option Interruption) NoMemory → Type 0
IsSaidOf (Ok _) result = IsOkAnd result (λ halt. halt ≡ None)
IsSaidOf (Err (stopped.Refused why)) result = IsOkAnd result (λ halt. halt ≡ Some (refused_by why))
IsSaidOf (Err (stopped.StoreFault store)) result = IsOkAnd result (λ halt. halt ≡ Some Faulted)
IsSaidOf (Err stopped.NoMemory) result = IsErr result

-- the event was played too, and this is how it stopped
pub record Advances (script : ScriptData) (p : Played) (event : Event) (halt : Option Interruption) (whole : ClusterModel) (clock : ℕ) (ahead : Store → ℕ → Fate) : Type 0 where
  pub stands : StandsAt script (played script p event) whole clock ahead
  pub stop : halt ≡ halt_of (step_of script p event).stop

-- whether the next event hangs on what the actor has under way: of the first events that of a collect alone does, and where the
-- run is over none is next
abbrev pub collects : Verb → Bool
collects verb.Collect = true
collects _ = false

abbrev pub looks : Verb → Point → Bool
looks verb Opens = collects verb
looks verb Over = false
looks verb _ = true
