use Rattle.std.proofs.Common.{◌∙◌, sym}
use Rattle.run_board.proofs.StageSteps.{one_more_settled}
use Rattle.run_board.proofs.play.Play.are_settled.Goals as goal

pub loop-number-preserved : goal.loop-number-preserved
loop-number-preserved g c = one_more_settled c.args.self.now.ran c.args.node c.loop-number.number c.loop-number.invariant (sym c.is_unsettled.ensures ∙ c.if-is_unsettled.false)
