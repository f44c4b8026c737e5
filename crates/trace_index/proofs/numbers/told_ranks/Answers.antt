use Rattle.trace_index.proofs.KeptLemmas.{ranks_next}
use Rattle.trace_index.proofs.numbers.told_ranks.Goals as goal

pub loop-place-preserved : goal.loop-place-preserved
loop-place-preserved c =
    ranks_next c.loop-place.ranks.items c.add_rank.new.ranks.items _ c.args.numbered.now c.loop-place.place c.at.result
    (rw c.len-place-end.ensures at c.loop-place-test.true) c.at.ensures (rw c.in_ok-add_rank.was at c.add_rank.ensures) c.loop-place.invariant
