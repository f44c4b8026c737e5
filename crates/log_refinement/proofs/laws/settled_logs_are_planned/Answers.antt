use Rattle.log_refinement.proofs.SettledLogs as settled
use Rattle.log_refinement.proofs.laws.settled_logs_are_planned.Goals as goal

pub returns : goal.returns
returns c = settled.settled_logs_are_planned c.settled_is_planned.ensures
