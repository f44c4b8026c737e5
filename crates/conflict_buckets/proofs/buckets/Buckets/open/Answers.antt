use Rattle.std.proofs.Common.{refl, sym, subst, ap, ◌∙◌, List, arith}
use Rattle.system_parts.specs.Buckets.{record_pairs}
use Rattle.conflict_buckets.specs.declared.bucket.Head.{Head}
use Rattle.conflict_buckets.specs.Runs.{buckets_in}
use Rattle.conflict_buckets.specs.Sound.{AreSound}
use Rattle.conflict_buckets.proofs.RunLemmas.{empty-buckets}
use Rattle.conflict_buckets.proofs.SoundLemmas.{sound-empty}
use Rattle.conflict_buckets.proofs.buckets.Buckets.open.Goals as goal

pub invariant_of-result : goal.invariant_of-result
invariant_of-result c =
    let runs = c.in_ok-runs.runs.items in
    subst (λ (heads : List Head). AreSound c.args.width c.room_of-room.result heads runs) (sym (c.in_ok-heads.ensures.items_if_clones_equal (λ y e. e)))
    (sound-empty c.args.width c.args.buckets c.room_of-room.result (record { len = 0; water = 0 }) runs (omega (arith, c.requires.count)) (omega (arith, c.requires.width)) c.room_of-room.ensures refl refl (omega (arith, c.in_ok-runs.ensures.len, c.in_ok-runs.runs.ok)))

pub returns : goal.returns
unfolding record_pairs
returns c =
    let runs = c.in_ok-runs.runs.items in
    ap (λ (heads : List Head). buckets_in c.args.width c.room_of-room.result heads runs) (c.in_ok-heads.ensures.items_if_clones_equal (λ y e. e))
    ∙ empty-buckets c.args.width c.room_of-room.result c.args.buckets (record { len = 0; water = 0 }) runs refl refl
