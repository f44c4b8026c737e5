use Rattle.split_driver.specs.Runs.{stand}
use Rattle.split_driver.proofs.Following.{plays_opening, stops_opened}
use Rattle.split_driver.proofs.player.Player.play_plain.Goals as goal

pub returns-clause-plays : goal.returns-clause-plays
returns-clause-plays g c = plays_opening c.args.self.now.actor c.args.line.now (stand c.args.seat.now c.args.account.now) (stand c.open_plain.new.seat c.open_plain.new.account) (stand c.run.new.seat c.run.new.account) c.requires.own (c.in_ok-halt.ensures.opens c.args.line.now.verb c.requires.first) c.in_ok-run.ensures.on c.in_ok-run.ensures.paid
