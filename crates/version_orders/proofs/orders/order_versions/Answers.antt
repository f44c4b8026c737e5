use Rattle.std.proofs.lemmas.Result.{on_ok_weaker}
use Rattle.version_orders.proofs.orders.order_versions.Goals as goal

pub returns-in-Some : goal.returns-in-Some
returns-in-Some c = on_ok_weaker c.lay_path.result (λ laid task readings sure. laid task readings c.args.order.now c.in-Some.ensures sure) c.lay_path.ensures
