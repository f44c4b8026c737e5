use Rattle.trace_rules.proofs.Graph.{graph_cycles}
use Rattle.trace_rules.proofs.cycles.graph_cycles_refuse.Goals as goal

pub returns : goal.returns
returns c = graph_cycles
