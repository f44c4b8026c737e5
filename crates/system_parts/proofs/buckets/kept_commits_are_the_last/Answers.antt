use Rattle.system_parts.proofs.BucketLaws.{kept_commit_last}
use Rattle.system_parts.proofs.buckets.kept_commits_are_the_last.Goals as goal

pub returns : goal.returns
returns c = kept_commit_last
