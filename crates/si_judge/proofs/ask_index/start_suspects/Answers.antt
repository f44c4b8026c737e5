use Rattle.si_judge.proofs.Names.{◌≡◌, ◌-◌, ◌<◌, ℕ, suc, Option, None, Some, length, slice_get, refl, sym, subst, ◌∙◌}
use Rattle.si_judge.proofs.Names.{arith, slice_get_read, length-set, get_or_read, IsNotAbove}
use Rattle.isolation_rules.specs.declared.verdict.Rule.TheVariants as rule
use Rattle.si_judge.proofs.SuspectLemmas.{mark_passes}
use Rattle.si_judge.proofs.AskIndexLemmas.{KnowsLeast, below_passes, least_more}
use Rattle.si_judge.proofs.ask_index.start_suspects.Goals as goal

pub loop-place-preserved : goal.loop-place-preserved
loop-place-preserved c =
    let items = c.args.items.now in
    let marks = c.loop-place.suspects.items in
    let starts = c.in_ok-starts.starts.items in
    let p : ℕ = c.loop-place.place - 1 in
    let next : c.loop-place.place ≡ suc p = omega (arith, c.loop-place-test.true) in
    let less : p < length items = omega (arith, c.loop-place-test.true, c.loop-place.auto.place) in
    let here : slice_get items p ≡ Some c.index-items-place.result = slice_get_read items (length items) p c.index-items-place.result refl less c.index-items-place.is in
    let least : KnowsLeast starts (suc p) c.loop-place.least = subst (λ (n : ℕ). KnowsLeast starts n c.loop-place.least) next c.loop-place.invariant.least in
    let read = get_or_read starts p c.index.result.now (omega (arith, less, c.in_ok-starts.ensures.length)) c.index.ensures None in
    record {
      each = length-set marks p c.may_be_stale.result ∙ c.loop-place.invariant.each;
      passed = mark_passes rule.Fresh items marks p c.may_be_stale.result (omega (arith, less, c.loop-place.invariant.each)) c.loop-place.invariant.passed (λ off. below_passes items starts p c.index-items-place.result c.loop-place.least here c.in_ok-starts.ensures.starts least (c.may_be_stale.ensures off));
      least = least_more starts p c.loop-place.least c.earlier-least.result least c.earlier-least.ensures.first (λ stamp above. c.earlier-least.ensures.second stamp (subst (λ (o : Option ℕ). IsNotAbove o stamp) (sym read) above));
    }
