use Rattle.isolation_rules.proofs.WorkedReads.{own_right, own_missed_wrong, listed_own_right, swept_right}
use Rattle.isolation_rules.proofs.worked.own_writes_are_read_first.Goals as goal

pub returns : goal.returns
returns c = record { own = own_right; missed = own_missed_wrong; listed = listed_own_right; swept = swept_right }
