use Rattle.stamp_base.specs.declared.stage.Stage.TheVariants.{Request}
use Rattle.run_board.proofs.StageSteps.{none_made, more_made}
use Rattle.run_board.proofs.play.Play.draw.Goals as goal

pub loop-step-init : goal.loop-step-init
loop-step-init g c = none_made c.args.node c.args.term Request c.args.session c.args.self.now

pub returns-then-is_through : goal.returns-then-is_through
returns-then-is_through g c = more_made c.args.node c.args.term Request c.args.session c.args.self.now c.loop-step.self c.is_through.new.self c.loop-step.invariant c.is_through.ensures

pub loop-step-preserved : goal.loop-step-preserved
loop-step-preserved g c = more_made c.args.node c.args.term Request c.args.session c.args.self.now c.loop-step.self c.is_through.new.self c.loop-step.invariant c.is_through.ensures
