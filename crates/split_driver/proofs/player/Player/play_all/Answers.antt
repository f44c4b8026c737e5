use Rattle.split_driver.specs.Runs.{stand}
use Rattle.split_driver.proofs.Following.{stands_all, nothing_left, front_at}
use Rattle.split_driver.proofs.player.Player.play_all.Goals as goal

pub returns-clause-follows : goal.returns-clause-follows
returns-clause-follows g c = stands_all c.args.self.now.actor c.args.lines.now c.loop-line.line-index (stand c.loop-line.seat c.loop-line.account) (nothing_left c.args.lines.now c.loop-line.line-index c.loop-line-test.false) c.loop-line.invariant.1

pub returns-clause-front : goal.returns-clause-front
returns-clause-front g c = front_at c.args.self.now.actor c.args.lines.now c.loop-line.line-index (stand c.loop-line.seat c.loop-line.account) c.loop-line.invariant.1
