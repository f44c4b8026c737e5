use Rattle.split_stores.proofs.MergedOrders as orders
use Rattle.split_stores.proofs.laws.settled_is_ordered.Goals as goal

pub returns : goal.returns
returns c = orders.settled_is_ordered
