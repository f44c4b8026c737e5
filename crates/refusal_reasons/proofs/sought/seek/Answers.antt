use Rattle.std.proofs.Common.{arith, sym, ◌∙◌}
use Rattle.refusal_reasons.specs.Clues.{fits}
use Rattle.refusal_reasons.proofs.SeekLemmas.{fails_at}
use Rattle.refusal_reasons.proofs.sought.seek.Goals as goal

pub loop-rest-preserved : goal.loop-rest-preserved
loop-rest-preserved c = record {
  same = fails_at (fits c.args.clue.now) c.args.items.now c.args.from c.loop-rest.rest c.index-items-rest.result (omega arith) (omega arith) c.index-items-rest.is (sym c.fits.ensures ∙ c.if-fits.false) ∙ c.loop-rest.invariant.same;
  ahead = omega arith;
  within = omega arith;
}
