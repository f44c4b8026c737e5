use Rattle.trace_rules.proofs.Graph.{graph_stamps}
use Rattle.trace_rules.proofs.cycles.graph_orders_stamp.Goals as goal

pub returns : goal.returns
returns c = graph_stamps
