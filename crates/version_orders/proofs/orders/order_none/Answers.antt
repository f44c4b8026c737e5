use Rattle.std.proofs.lemmas.Result.{on_ok_weaker}
use Rattle.version_orders.proofs.orders.order_none.Goals as goal

pub returns-in-Some : goal.returns-in-Some
returns-in-Some c = on_ok_weaker c.lay_none.result (λ laid task sure. laid task c.args.readings.now c.args.order.now c.in-Some.ensures sure) c.lay_none.ensures
