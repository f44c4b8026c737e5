use Rattle.split_stores.proofs.MergedOrders as orders
use Rattle.split_stores.proofs.laws.settled_by_plans.Goals as goal

pub returns : goal.returns
returns c = orders.settled_by_plans
