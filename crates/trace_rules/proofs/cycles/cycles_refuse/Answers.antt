use Rattle.trace_rules.proofs.Forced.{cycles}
use Rattle.trace_rules.proofs.cycles.cycles_refuse.Goals as goal

pub returns : goal.returns
returns c = cycles
