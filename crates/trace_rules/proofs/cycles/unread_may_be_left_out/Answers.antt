use Rattle.trace_rules.proofs.Open.{left_out}
use Rattle.trace_rules.proofs.cycles.unread_may_be_left_out.Goals as goal

pub returns : goal.returns
returns c = left_out
