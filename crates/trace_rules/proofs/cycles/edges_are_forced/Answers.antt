use Rattle.trace_rules.proofs.Forced.{edges}
use Rattle.trace_rules.proofs.cycles.edges_are_forced.Goals as goal

pub returns : goal.returns
returns c = edges
