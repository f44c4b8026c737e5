use Rattle.service_rules.proofs.WorkedTold.{ended_wrong}
use Rattle.service_rules.proofs.worked.ended_transactions_stay_out.Goals as goal

pub returns : goal.returns
returns c = ended_wrong
