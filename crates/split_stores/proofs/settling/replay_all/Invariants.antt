use Rattle.std.specs.Prelude.{take, drop}
use Rattle.port_io.specs.contracts.planned.PlannedWeatherWeather.TheImpl.{ahead-value}
use Rattle.split_parts.specs.Plans.{plan_data}
use Rattle.split_stores.proofs.ReplayLemmas.{StandsAfter}
use Rattle.split_stores.proofs.settling.replay_all.Given as goal

abbrev pub invariant-loop-entry : goal.invariant-loop-entry
invariant-loop-entry l = StandsAfter (plan_data l.plan) (take l.entry-index l.merged) (drop l.entry-index l.merged) l.play.cluster l.play.clock (ahead-value.it l.play.weather)
