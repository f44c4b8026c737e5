use Rattle.std.proofs.Common.{replicate}
use Rattle.system_parts.specs.Buckets.{empty_bucket}
use Rattle.system_parts.proofs.BucketVerdicts.{record_pairs-append}
use Rattle.system_parts.proofs.buckets.recordings_go_on.Goals as goal

pub returns : goal.returns
returns c = (λ count width earlier later. record_pairs-append (replicate count (empty_bucket width)) earlier later)
