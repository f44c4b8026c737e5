use Rattle.trace_index.proofs.LeftLemmas.{left_next}
use Rattle.trace_index.proofs.attempts.add_left.Goals as goal

pub loop-place-preserved : goal.loop-place-preserved
loop-place-preserved c =
    left_next c.loop-place.attempts.items c.add_unanswered.new.attempts.items _ c.args.latest.now c.loop-place.place c.at.result
    (rw c.len-place-end.ensures at c.loop-place-test.true) c.at.ensures (rw c.in_ok-add_unanswered.was at c.add_unanswered.ensures) c.loop-place.invariant
