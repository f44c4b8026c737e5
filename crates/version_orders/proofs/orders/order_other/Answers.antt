use Rattle.std.proofs.lemmas.Result.{on_ok_weaker}
use Rattle.version_orders.proofs.orders.order_other.Goals as goal

pub returns-in_ok-lay_missed-in-Some : goal.returns-in_ok-lay_missed-in-Some
returns-in_ok-lay_missed-in-Some c = on_ok_weaker c.lay_seen.result
    (λ laid task sure. laid task c.args.readings.now c.args.order.now c.in-Some.ensures (c.in_ok-lay_missed-in-Some.ensures task c.args.readings.now c.args.order.now c.in-Some.ensures sure)) c.lay_seen.ensures
