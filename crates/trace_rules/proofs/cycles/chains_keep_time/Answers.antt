use Rattle.trace_rules.proofs.Wants.{keeps_time}
use Rattle.trace_rules.proofs.cycles.chains_keep_time.Goals as goal

pub returns : goal.returns
returns c = keeps_time
