use Rattle.replay_driver.proofs.Making.{led}
use Rattle.replay_driver.proofs.choosing.made.Goals as goal

pub returns : goal.returns
returns c = led c.args.line.now c.args.event.now c.in_ok-halt.halt _ _ _ _ c.in_ok-halt.ensures c.follows.ensures
