use Rattle.session_events.proofs.SweepSteps.{keys_listed}
use Rattle.session_events.proofs.sweeping.sweep_asked.Goals as goal

pub returns-in-Keys-clause-made : goal.returns-in-Keys-clause-made
returns-in-Keys-clause-made g c =
    keys_listed _ _ (g.W.Weather.ahead c.args.weather.now) c.args.sweep.now c.args.cells.now.rows c.args.table.now.pairs _ _ _ _ c.in-Keys.is (c.list_keys.ensures.made c.args.table.now.pairs)
