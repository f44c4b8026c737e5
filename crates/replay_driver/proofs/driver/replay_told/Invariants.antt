use Rattle.port_io.specs.contracts.planned.PlannedWeatherWeather.TheImpl.{ahead-value}
use Rattle.session_script.specs.Script.{data_of}
use Rattle.replay_driver.specs.Playing.{IsPlayedTo}
use Rattle.planned_cluster.proofs.Fitting.{SessionsAreThere}
use Rattle.replay_driver.proofs.driver.replay_told.Given as goal

abbrev pub invariant-loop-place : goal.invariant-loop-place
invariant-loop-place g l = record {
  played : IsPlayedTo (data_of l.script) l.place l.play.cluster l.play.clock (ahead-value.it l.play.weather);
  there : SessionsAreThere l.place l.script.lines.items;
}
