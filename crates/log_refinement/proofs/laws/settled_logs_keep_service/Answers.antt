use Rattle.log_refinement.proofs.SettledLogs as settled
use Rattle.log_refinement.proofs.laws.settled_logs_keep_service.Goals as goal

pub returns : goal.returns
returns c = settled.settled_logs_keep_service c.settled_is_ordered.ensures c.orders_keep_service.ensures
