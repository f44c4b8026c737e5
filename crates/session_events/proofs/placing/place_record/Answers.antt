use Rattle.std.proofs.Common.{◌≢◌, arith}
use Rattle.stamp_base.specs.declared.stores.Store.TheVariants.{Table}
use Rattle.port_io.specs.declared.weather.Fate.TheVariants.{Works}
use Rattle.event_parts.specs.Kept.{made_items}
use Rattle.session_events.proofs.OwnPlacings.{place_failed}
use Rattle.session_events.proofs.placing.place_record.Goals as goal

pub returns-in-Err-clause-made : goal.returns-in-Err-clause-made
returns-in-Err-clause-made g c = λ rows.
    let fails : g.W.Weather.ahead c.args.weather.now Table 0 ≢ Works = grind arith in
    place_failed (g.W.Weather.ahead c.args.weather.now Table 0)
    (record { session = c.args.session; start = c.args.start; commit = c.args.commit; client = c.args.client.now; rows = rows; table = c.args.table.now.pairs })
    (record { client = c.opened.new.self; table = c.put_in_room.new.self.pairs; made = made_items c.placed_item-made.result; before = c.args.book.now.items; after = c.tell_failed.new.book.items; result = c.tell_failed.result })
    (record { fails = fails; moved = grind arith; kept = grind arith; items = grind arith; opened = c.opened.ensures; told = c.tell_failed.ensures.answer })
