use Rattle.isolation_rules.proofs.WorkedHistories.{stale_not_fresh, asked_fresh, one_commit_wrong, one_start_wrong, start_as_commit_wrong, above_stamped, at_start_wrong, below_start_wrong}
use Rattle.isolation_rules.proofs.worked.stamps_tell_times_apart.Goals as goal

pub returns : goal.returns
returns c = record {
  stale = stale_not_fresh;
  asked_before = asked_fresh;
  commits = one_commit_wrong;
  starts = one_start_wrong;
  start_and_commit = start_as_commit_wrong;
  above = above_stamped;
  at = at_start_wrong;
  below = below_start_wrong;
}
