use Rattle.system_parts.proofs.BucketLaws.{water_recorded}
use Rattle.system_parts.proofs.buckets.waters_were_recorded.Goals as goal

pub returns : goal.returns
returns c = water_recorded
