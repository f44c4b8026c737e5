-- How the run of a line goes on: its next event, as the code makes it.
use Rattle.std.specs.Prelude.{◌≡◌, ℕ, Bool, true, false, List, Option, None, Some}
use Rattle.port_io.specs.contracts.planned.PlannedWeatherWeather.TheImpl.{ahead-value}
use Rattle.machine.specs.declared.event.Doing.{Doing}
use Rattle.machine.specs.declared.event.Event.{Event}
use Rattle.machine.specs.declared.event.Event.TheVariants.{Step}
use Rattle.machine.specs.Machine.{IsSteadyAt, reading_of}
use Rattle.script_data.specs.Data.{ScriptData}
use Rattle.script_data.specs.declared.line.Line.{Line}
use Rattle.script_data.specs.declared.line.Verb.{Verb}
use Rattle.command_semantics.specs.declared.point.Point.{Point}
use Rattle.command_semantics.specs.declared.point.Point.TheVariants.{Drives, Finishes, Reads, Steps, Over}
use Rattle.command_semantics.specs.Clocks.{HaveRoom}
use Rattle.command_semantics.specs.Next.{next, places, placing_next, finish_next, read_next, steps_next}
use Rattle.command_semantics.specs.Runs.{Run, run_after}
use Rattle.command_semantics.specs.Views.{view_of}
use Rattle.planned_cluster.specs.Standing.{StandsAt, clocks_at}
use Rattle.planned_cluster.specs.declared.planned.PlannedCluster.{PlannedCluster}

-- the next event of the line from this point on
abbrev pub next_at : PlannedCluster → List ℕ → Line → Point → Option Event
next_at play leads line point = next (clocks_at play.cluster play.clock leads) line.actor line.verb point (view_of play.cluster.state line.actor)

-- the clocks have room for the line, and the reading of its next event is steady
pub record CanGoOn (play : PlannedCluster) (leads : List ℕ) (line : Line) (point : Point) : Type 0 where
  pub room : HaveRoom play.clock leads line.verb
  pub steady : (event : Event) → next_at play leads line point ≡ Some event → IsSteadyAt play.cluster.state.setup.skew play.cluster.state.seen (reading_of event)

-- where a run stands once this event was made; without one it is over
abbrev pub run_by : ScriptData → Line → Run → Option Event → Run
run_by script line r None = record r { point = Over }
run_by script line r (Some event) = run_after script line r event

-- the cluster with its clock and its weather, and the point, stand where the run does
pub record IsAt (script : ScriptData) (r : Run) (play : PlannedCluster) (point : Point) : Type 0 where
  pub stands : StandsAt script r.played play.cluster play.clock (ahead-value.it play.weather)
  pub point_is : point ≡ r.point

-- wherever the run of the line stood, it stands where the event leads to
abbrev pub Makes : PlannedCluster → Line → Point → Option Event → PlannedCluster → Point → Type 0
Makes old line point event new further = (script : ScriptData) (r : Run) → IsAt script r old point → IsAt script (run_by script line r event) new further

abbrev pub MakesNext : PlannedCluster → List ℕ → Line → Point → PlannedCluster → Point → Type 0
MakesNext old leads line point new further = Makes old line point (next_at old leads line point) new further

-- the step with which a line goes on with what its session does, without a request in flight
abbrev pub step_next : ℕ → Verb → Point → Doing → Option Event
step_next session verb Drives doing = placing_next session doing (places verb)
step_next session verb Finishes doing = finish_next session doing
step_next session verb Reads doing = read_next session doing
step_next session verb Steps doing = steps_next session doing
step_next session verb _ doing = None

abbrev pub step_where : ℕ → Bool → Option Event
step_where session true = Some (Step session)
step_where session false = None
