use Rattle.system_parts.proofs.BucketVerdicts.{verdict_shown}
use Rattle.system_parts.proofs.buckets.verdicts_are_shown.Goals as goal

pub returns : goal.returns
returns c = verdict_shown
