use Rattle.service_rules.proofs.WorkedCopies.{crossed_wrong, uncrossed_right}
use Rattle.service_rules.proofs.worked.reads_are_of_one_copy.Goals as goal

pub returns : goal.returns
returns c = record { commits = crossed_wrong; ends = uncrossed_right }
