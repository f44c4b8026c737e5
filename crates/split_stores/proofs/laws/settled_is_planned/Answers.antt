use Rattle.split_stores.proofs.MergedOrders as orders
use Rattle.split_stores.proofs.laws.settled_is_planned.Goals as goal

pub returns : goal.returns
returns c = orders.settled_is_planned c.orders_are_planned.ensures
