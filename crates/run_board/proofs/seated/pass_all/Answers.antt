use Rattle.run_board.proofs.Names.{arith, ◌∙◌, ap, map_over_more, clocks_at, Seated, after_passing}
use Rattle.std.proofs.Common.{slice_set}
use Rattle.run_board.proofs.seated.pass_all.Goals as goal

pub loop-number-preserved : goal.loop-number-preserved
loop-number-preserved c = record {
  passed = ap (λ (s : Seated). slice_set c.loop-number.seated.items c.loop-number.number s) (c.pass.ensures) ∙ map_over_more (after_passing (clocks_at c.args.planned.now.cluster c.args.planned.now.clock c.args.leads.now) c.args.planned.now.cluster.state) c.args.seated.now.items c.loop-number.seated.items c.loop-number.number c.index_mut.result.now (omega (arith, c.loop-number-test.true, c.loop-number.invariant.same, c.loop-number.seated.ok)) c.loop-number.invariant.passed c.index_mut.ensures.value;
  same = c.loop-number.invariant.same;
}
