use Rattle.std.proofs.Common.{◌≡◌}
use Rattle.split_driver.specs.Runs.{GoesOn, MayRun, stand}
use Rattle.split_driver.proofs.player.Player.run.Given as goal

abbrev pub invariant-loop : goal.invariant-loop
invariant-loop g l = (l.seat.word ≡ l.fn.seat.word) × GoesOn l.self.actor (stand l.fn.seat l.fn.account) (stand l.seat l.account) × MayRun l.self.actor l.line.verb l.point
