use Rattle.trace_rules.proofs.Lists.{neighbours}
use Rattle.trace_rules.proofs.cycles.lists_force_orders.Goals as goal

pub returns : goal.returns
returns c = neighbours
