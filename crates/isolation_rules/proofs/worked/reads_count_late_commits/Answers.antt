use Rattle.isolation_rules.proofs.WorkedReads.{late_right, missed_wrong}
use Rattle.isolation_rules.proofs.worked.reads_count_late_commits.Goals as goal

pub returns : goal.returns
returns c = record { late = late_right; missed = missed_wrong }
