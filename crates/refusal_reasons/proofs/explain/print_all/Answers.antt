use Rattle.std.proofs.Common.{arith, ◌∙◌}
use Rattle.refusal_reasons.proofs.WordLemmas.{one_more}
use Rattle.refusal_reasons.proofs.explain.print_all.Goals as goal

pub loop-place-preserved : goal.loop-place-preserved
loop-place-preserved c = one_more c.loop-place.text c.print_at.new.text c.args.items.now c.loop-place.place (omega arith) c.in_ok-print_at.ensures ∙ c.loop-place.invariant
