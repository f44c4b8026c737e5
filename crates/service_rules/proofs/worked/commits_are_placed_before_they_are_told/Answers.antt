use Rattle.service_rules.proofs.WorkedTold.{early_wrong, told_true}
use Rattle.service_rules.proofs.worked.commits_are_placed_before_they_are_told.Goals as goal

pub returns : goal.returns
returns c = record { told = told_true; early = early_wrong }
