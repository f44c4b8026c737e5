use Rattle.split_driver.specs.Runs.{stand}
use Rattle.split_driver.proofs.Following.{plays_opening, stops_before}
use Rattle.split_driver.proofs.player.Player.play_opening.Goals as goal

pub returns-in-Err-clause-spent : goal.returns-in-Err-clause-spent
returns-in-Err-clause-spent g c = c.in-Err.ensures c.args.seat.now.entries

pub returns-clause-plays : goal.returns-clause-plays
returns-clause-plays g c = plays_opening c.args.self.now.actor c.args.line.now (stand c.args.seat.now c.args.account.now) (stand c.«open».new.seat c.«open».new.account) (stand c.run.new.seat c.run.new.account) c.requires.own c.in_ok-halt.ensures.opens c.in_ok-run.ensures.on c.in_ok-run.ensures.paid

pub returns-in-Err-clause-stops : goal.returns-in-Err-clause-stops
returns-in-Err-clause-stops g c = stops_before c.args.self.now.actor c.args.line.now.verb (stand c.args.seat.now c.args.account.now)
