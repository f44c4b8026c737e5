use Rattle.std.proofs.Common.{◌+◌, List, take, slice_set, refl, ap, ◌∙◌, arith}
use Rattle.system_parts.specs.declared.buckets.Recorded.{Recorded}
use Rattle.std.proofs.lemmas.List.{length-take-le}
use Rattle.conflict_buckets.proofs.Places.{put-between}
use Rattle.conflict_buckets.proofs.pairs.add.Goals as goal

pub returns-clause-added : goal.returns-clause-added
returns-clause-added c =
    let run = c.args.run.now in
    let place = c.place_among-place.result in
    let within = length-take-le c.args.len run (omega arith) in
    ap (λ (after : List Recorded). take (c.args.len + 1) (slice_set after place c.args.pair)) c.copy_within.ensures.after
    ∙ (put-between run place c.args.len c.args.pair (omega arith) (omega arith) ∙ c.place_among-place.ensures.place c.args.pair refl)
