use Rattle.std.proofs.Common.{◌≡◌, ◌-◌, ◌<◌, ℕ, suc, Some, length, slice_get, refl, subst, ◌∙◌, arith}
use Rattle.std.proofs.lemmas.Option.{slice_get_read}
use Rattle.std.proofs.Math.ListN.{length-set}
use Rattle.isolation_rules.specs.declared.verdict.Rule.TheVariants as rule
use Rattle.si_judge.proofs.SuspectLemmas.{mark_passes}
use Rattle.si_judge.proofs.StampIndexLemmas.{HasBehind, clear_passes, behind_more}
use Rattle.si_judge.proofs.stamp_index.stamp_suspects.Goals as goal

pub loop-place-preserved : goal.loop-place-preserved
loop-place-preserved c =
    let items = c.args.items.now in
    let marks = c.loop-place.suspects.items in
    let p : ℕ = c.loop-place.place - 1 in
    let next : c.loop-place.place ≡ suc p = omega (arith, c.loop-place-test.true) in
    let less : p < length items = omega (arith, c.loop-place-test.true, c.loop-place.auto.place) in
    let here : slice_get items p ≡ Some c.index-items-place.result = slice_get_read items (length items) p c.index-items-place.result refl less c.index-items-place.is in
    let added : slice_get items p ≡ Some c.index-items-place-in-loop-place.result = slice_get_read items (length items) p c.index-items-place-in-loop-place.result refl less c.index-items-place-in-loop-place.is in
    let behind : HasBehind items c.loop-place.later (suc p) = subst (λ (n : ℕ). HasBehind items c.loop-place.later n) next c.loop-place.invariant.behind in
    record {
      each = length-set marks p c.may_meet.result ∙ c.loop-place.invariant.each;
      passed = mark_passes rule.Stamped items marks p c.may_meet.result (omega (arith, less, c.loop-place.invariant.each)) c.loop-place.invariant.passed (λ off. clear_passes items c.loop-place.later p c.index-items-place.result here behind (c.may_meet.ensures off));
      behind = behind_more items c.loop-place.later c.add.new.self p c.index-items-place-in-loop-place.result added behind c.in_ok-add.ensures.kept c.in_ok-add.ensures.added;
    }
