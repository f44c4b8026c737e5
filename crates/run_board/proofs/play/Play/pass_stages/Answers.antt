use Rattle.stamp_base.specs.declared.stage.Stage.TheVariants.{Persist, Reply}
use Rattle.run_board.proofs.StageSteps.{one_made}
use Rattle.run_board.proofs.play.Play.pass_stages.Goals as goal

pub returns : goal.returns
returns g c = record {
  drawn = c.draw.new.self;
  settled = c.stage_step-put.new.self;
  request = c.draw.ensures;
  persist = one_made c.args.node c.args.term Persist c.args.session c.stage_step-put.result c.draw.new.self c.stage_step-put.new.self c.stage_step-put.ensures.made;
  reply = one_made c.args.node c.args.term Reply c.args.session c.stage_step-answered.result c.stage_step-put.new.self c.stage_step-answered.new.self c.stage_step-answered.ensures.made;
}
