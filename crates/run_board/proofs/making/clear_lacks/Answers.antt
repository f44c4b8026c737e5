use Rattle.run_board.proofs.Names.{arith, false, Bool, map_over_more}
use Rattle.run_board.proofs.making.clear_lacks.Goals as goal

pub loop-number-preserved : goal.loop-number-preserved
loop-number-preserved c = record {
  cleared = map_over_more (λ (b : Bool). false) c.args.lacking.now.items c.loop-number.lacking.items c.loop-number.number c.index_mut.result.now (omega (arith, c.loop-number-test.true, c.loop-number.invariant.same, c.loop-number.lacking.ok)) c.loop-number.invariant.cleared c.index_mut.ensures.value;
  same = c.loop-number.invariant.same;
}
