use Rattle.std.proofs.Common.{sym, ◌∙◌}
use Rattle.split_driver.specs.Runs.{stand}
use Rattle.split_driver.proofs.Following.{plays_over}
use Rattle.split_driver.proofs.player.Player.play_other.Goals as goal

pub returns-in_ok-run-in-None-clause-plays : goal.returns-in_ok-run-in-None-clause-plays
returns-in_ok-run-in-None-clause-plays g c = plays_over c.args.self.now.actor c.args.line.now (stand c.args.seat.now c.args.account.now) (stand c.run.new.seat c.run.new.account) c.requires.own (c.requires.none, sym c.plain_event.ensures.value ∙ c.in-None.is) c.in_ok-run-in-None.ensures.on c.in_ok-run-in-None.ensures.paid
