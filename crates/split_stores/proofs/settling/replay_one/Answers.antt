use Rattle.std.proofs.Common.{◌∙◌, sym, subst}
use Rattle.machine.specs.declared.event.Event as machine
use Rattle.command_semantics.specs.Runs.{played}
use Rattle.planned_cluster.specs.Standing.{StandsAt}
use Rattle.port_io.specs.contracts.planned.PlannedWeatherWeather.TheImpl.{ahead-value}
use Rattle.split_stores.proofs.ReplayLemmas.{same_items, event_is, items_since}
use Rattle.split_stores.proofs.settling.replay_one.Goals as goal

pub returns-in-None : goal.returns-in-None
returns-in-None c = λ script p same at.
    let made = event_is script p c.args.entry.now.event _ _ _ _ c.timed.result c.timed.ensures at.time c.master_at.ensures at.history same in
    let after = c.in_ok-make_again.ensures script p at in
    let behind = items_since script p c.args.entry.now.event c.timed.result c.history-before.result.now c.history.result.now c.since.result.now made (c.history-before.ensures.value ∙ at.history) (c.history.ensures.value ∙ after.history) c.since.ensures in (
      sym c.as_slice.ensures.value ∙ same_items c.as_slice.result.now c.since.result.now c.in-None.ensures ∙ behind,
      subst (λ (x : machine.Event). StandsAt script (played script p x) c.make_again.new.play.cluster c.make_again.new.play.clock (ahead-value.it c.make_again.new.play.weather)) made after,
    )
