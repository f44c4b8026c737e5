use Rattle.system_parts.proofs.BucketVerdicts.{length-contents, in_order}
use Rattle.system_parts.proofs.buckets.buckets_stay_in_order.Goals as goal

pub returns : goal.returns
returns c = record { many = length-contents; in_order = in_order }
