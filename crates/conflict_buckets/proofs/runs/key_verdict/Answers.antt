use Rattle.std.proofs.Common.{◌≡◌, ◌*◌, ◌+◌, ◌-◌, sym, ap, ◌∙◌, ℕ, take, drop, slice_index_or, arith}
use Rattle.system_parts.specs.Buckets as memory
use Rattle.system_parts.specs.Buckets.{Bucket}
use Rattle.conflict_buckets.specs.declared.bucket.Head.{Head}
use Rattle.conflict_buckets.proofs.RunLemmas.{bucket-of}
use Rattle.conflict_buckets.proofs.runs.key_verdict.Goals as goal

pub returns : goal.returns
returns c width =
    let head : Head = slice_index_or c.args.heads.now c.place_of-place.result (record { len = 0; water = 0 }) in
    let first : ℕ = c.place_of-place.result * c.args.room in
    let whole : first + head.len - first ≡ head.len = omega arith in
    c.key_verdict.ensures
    ∙ (ap (λ (n : ℕ). memory.judged c.args.start c.args.key head.water (memory.kept_commit (take n (drop first c.args.runs.now)) c.args.key)) whole
    ∙ ap (λ (b : Bucket). memory.key_verdict b c.args.start c.args.key) (sym (bucket-of width c.args.room c.args.heads.now c.args.runs.now c.place_of-place.result c.args.key (record { len = 0; water = 0 }) c.place_of-place.ensures.value c.place_of-place.ensures.within)))
