use Rattle.log_refinement.proofs.SettledLogs as settled
use Rattle.log_refinement.proofs.laws.settled_logs_answer.Goals as goal

pub returns : goal.returns
returns c = settled.settled_logs_answer c.events_stay_told.ensures c.settled_by_plans.ensures
