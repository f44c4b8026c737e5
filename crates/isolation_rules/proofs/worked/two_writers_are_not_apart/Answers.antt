use Rattle.isolation_rules.proofs.WorkedHistories.{both_not_apart}
use Rattle.isolation_rules.proofs.worked.two_writers_are_not_apart.Goals as goal

pub returns : goal.returns
returns c = both_not_apart
