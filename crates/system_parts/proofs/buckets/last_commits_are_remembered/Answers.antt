use Rattle.system_parts.proofs.BucketLaws.{last_commit_held}
use Rattle.system_parts.proofs.buckets.last_commits_are_remembered.Goals as goal

pub returns : goal.returns
returns c = last_commit_held
