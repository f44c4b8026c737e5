use Rattle.std.proofs.Common.{◌≡◌, ◌-◌, arith, ap, sym, ◌∙◌}
use Rattle.breach_reasons.specs.Breaches.{is_shared}
use Rattle.refusal_reasons.specs.Sought.{last_in}
use Rattle.refusal_reasons.proofs.SeekLemmas.{fails_at}
use Rattle.breach_reasons.proofs.shared.shared_write.Goals as goal

pub loop-rest-preserved : goal.loop-rest-preserved
loop-rest-preserved c =
    let test = is_shared c.args.items.now c.args.one c.args.other in
    let rest = c.loop-rest.rest in
    let before : rest - 1 ≡ rest - 1 - 0 = omega arith in
    let after : rest - 0 ≡ rest = omega arith in
    record {
      same =
          ap (last_in test c.args.items.now 0) before
          ∙ (fails_at test c.args.items.now 0 rest c.index-items-rest.result (omega arith) (omega arith) c.index-items-rest.is (sym c.is_shared.ensures ∙ c.if-is_shared.false)
          ∙ (ap (last_in test c.args.items.now 0) after ∙ c.loop-rest.invariant.same));
      within = omega arith;
    }
