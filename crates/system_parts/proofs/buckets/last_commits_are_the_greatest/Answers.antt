use Rattle.system_parts.proofs.LastCommits.{last_commit_recorded, last_commit_greatest}
use Rattle.system_parts.proofs.buckets.last_commits_are_the_greatest.Goals as goal

pub returns-clause-recorded : goal.returns-clause-recorded
returns-clause-recorded c = last_commit_recorded

pub returns-clause-greatest : goal.returns-clause-greatest
returns-clause-greatest c = last_commit_greatest
