use Rattle.std.proofs.Common.{length, refl, sym, ◌∙◌}
use Rattle.trace_index.proofs.RoundLemmas.{rounds_end, rounds_left, rounds_over}
use Rattle.trace_index.proofs.flags.make_rounds.Goals as goal

pub loop-made-preserved : goal.loop-made-preserved
loop-made-preserved c =
    rounds_left c.args.attempts.now c.args.operations.now (length c.args.attempts.now) c.loop-made._made c.loop-made.flags c.make_round-changed.new.flags c.loop-made-test.true c.make_round-changed.ensures.made
    ∙ c.loop-made.invariant

pub returns-then-not-changed : goal.returns-then-not-changed
returns-then-not-changed c =
    let same = c.if-not-changed.ensures.same refl in
    let made = sym c.make_round-changed.ensures.made ∙ same in
    same ∙ sym (rounds_end c.args.attempts.now c.args.operations.now _ c.loop-made.flags made) ∙ c.loop-made.invariant

pub returns-after-loop-made : goal.returns-after-loop-made
returns-after-loop-made c = sym (rounds_over c.args.attempts.now c.args.operations.now _ _ c.loop-made.flags c.loop-made-test.false) ∙ c.loop-made.invariant
