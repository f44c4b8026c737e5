use Rattle.stamp_base.specs.declared.stage.Stage.TheVariants.{Request}
use Rattle.run_board.proofs.StageSteps.{one_made}
use Rattle.run_board.proofs.play.Play.is_through.Goals as goal

pub returns : goal.returns
returns g c = one_made c.args.node c.args.term Request c.args.session c.stage_step-step.result c.args.self.now c.stage_step-step.new.self c.stage_step-step.ensures.made
