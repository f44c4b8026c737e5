use Rattle.replay_driver.proofs.Making.{made}
use Rattle.replay_driver.proofs.play.make.Goals as goal

pub returns : goal.returns
returns c = made c.args.event.now c.make.result c.answered.result _ _ _ _ _ _ c.make.ensures.played c.answered.ensures
