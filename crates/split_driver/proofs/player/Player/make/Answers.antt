use Rattle.split_driver.proofs.player.Player.make.Goals as goal

pub returns-clause-enters : goal.returns-clause-enters
returns-clause-enters g c = c.told.ensures c.args.event c.args.seat.now c.make-made.new.seat c.make-made.ensures.made
