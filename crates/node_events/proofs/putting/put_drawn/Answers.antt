use Rattle.std.proofs.Common.{◌≢◌, arith}
use Rattle.stamp_base.specs.declared.stores.Store.TheVariants.{Table}
use Rattle.port_io.specs.declared.weather.Fate.TheVariants.{Works}
use Rattle.event_parts.specs.Kept.{made_items}
use Rattle.node_events.proofs.Placed.{put_failed}
use Rattle.node_events.proofs.putting.put_drawn.Goals as goal

pub returns-in-Err-clause-made : goal.returns-in-Err-clause-made
returns-in-Err-clause-made g c =
    let fails : g.W.Weather.ahead c.args.weather.now Table 0 ≢ Works = grind arith in
    put_failed (g.W.Weather.ahead c.args.weather.now Table 0)
    (record { node = c.args.node; session = c.args.session; start = c.args.start; commit = c.args.commit; instance = c.args.instance.now; table = c.args.table.now.pairs })
    (record { instance = c.settle-in-Err.new.instance; table = c.put_reserved.new.self.pairs; made = made_items c.placed_item-made.result; before = c.args.book.now.items; after = c.fail_reserved.new.book.items; result = c.fail_reserved.result })
    (record { fails = fails; moved = grind arith; kept = grind arith; items = grind arith; settled = grind arith; told = grind arith })
