use Rattle.std.proofs.Common.{arith, ◌∙◌, sym}
use Rattle.run_board.proofs.ByIndex.{searched_more}
use Rattle.run_board.proofs.seated.searched_index.Goals as goal

pub loop-index-preserved : goal.loop-index-preserved
loop-index-preserved c = searched_more c.args.seated.now c.loop-index.index c.args.actor.now (omega (arith, c.loop-index-test.true)) (sym c.sits_at.ensures.value ∙ c.if-sits_at.false) c.loop-index.invariant
