-- A call that made its event advanced what is played.
use Rattle.std.proofs.Common.{◌≡◌, ℕ, Option, Some, Result, Ok, Err, sym, ap, ◌∙◌}
use Rattle.std.proofs.lemmas.Bool.{true≢false}
use Rattle.std.specs.Prelude.{IfOk}
use Rattle.stamp_base.specs.declared.memory.NoMemory.{NoMemory}
use Rattle.stamp_base.specs.declared.stores.Store.{Store}
use Rattle.port_io.specs.declared.weather.Fate.{Fate}
use Rattle.port_io.specs.contracts.planned.PlannedWeatherWeather.TheImpl.{ahead-value}
use Rattle.machine.specs.declared.event.Event.{Event}
use Rattle.event_parts.specs.declared.stopped.Stopped.{Stopped}
use Rattle.event_parts.specs.declared.stopped.Stopped.TheVariants.{Refused, StoreFault, NoMemory as Memory}
use Rattle.script_data.specs.Data.{ScriptData}
use Rattle.script_data.specs.declared.line.Line.{Line}
use Rattle.command_semantics.specs.declared.point.Interruption.{Interruption}
use Rattle.command_semantics.specs.declared.point.Point.{Point}
use Rattle.command_semantics.specs.Interruptions.{halt_of, follows}
use Rattle.command_semantics.specs.Runs.{Played}
use Rattle.cluster_core.specs.ClusterModel.{ClusterModel}
use Rattle.planned_cluster.specs.Standing.{StandsAt, PlaysOn}
use Rattle.planned_cluster.specs.declared.planned.PlannedCluster.{PlannedCluster}
use Rattle.replay_driver.specs.GoingOn.{Makes}
use Rattle.replay_driver.specs.Playing.{Advances, IsSaidOf}

advanced : (script : ScriptData) (p : Played) (e : Event) (answer : Result Unit Stopped) (halt : Option Interruption) (old new : ClusterModel) (clock later : ℕ) (before now : Store → ℕ → Fate) → PlaysOn e answer old clock before new later now → IsSaidOf answer (Ok halt) → StandsAt script p old clock before → Advances script p e halt new later now
advanced script p e (Ok done) halt old new clock later before now plays said at = record { stands = (plays script p at).1; stop = said ∙ sym (ap halt_of (plays script p at).0) }
advanced script p e (Err (Refused why)) halt old new clock later before now plays said at = record { stands = (plays script p at).1; stop = said ∙ sym (ap halt_of (plays script p at).0) }
advanced script p e (Err (StoreFault store)) halt old new clock later before now plays said at = record { stands = (plays script p at).1; stop = said ∙ sym (ap halt_of (plays script p at).0) }
advanced script p e (Err Memory) halt old new clock later before now plays said at = absurd (true≢false (sym said))

pub made : (e : Event) (answer : Result Unit Stopped) (result : Result (Option Interruption) NoMemory) (old new : ClusterModel) (clock later : ℕ) (before now : Store → ℕ → Fate) → PlaysOn e answer old clock before new later now → IsSaidOf answer result → IfOk result (λ halt. (script : ScriptData) (p : Played) → StandsAt script p old clock before → Advances script p e halt new later now)
made e answer (Ok halt) old new clock later before now plays said = λ script p at. advanced script p e answer halt old new clock later before now plays said at
made e answer (Err refused) old new clock later before now plays said = tt

-- where the event was made and the point follows from how it stopped, the run stands where the event leads to
pub led : (line : Line) (e : Event) (halt : Option Interruption) (old new : PlannedCluster) (point further : Point) → ((script : ScriptData) (p : Played) → StandsAt script p old.cluster old.clock (ahead-value.it old.weather) → Advances script p e halt new.cluster new.clock (ahead-value.it new.weather)) → further ≡ follows line.verb point halt → Makes old line point (Some e) new further
led line e halt old new point further made is = λ script r at.
    let advanced = made script r.played at.stands in
    record {
      stands = advanced.stands;
      point_is = is ∙ (ap (λ (x : Point). follows line.verb x halt) at.point_is ∙ ap (λ (h : Option Interruption). follows line.verb r.point h) advanced.stop);
    }
