use Rattle.std.proofs.Common.{◌≡◌}
use Rattle.split_driver.specs.Runs.{stand}
use Rattle.split_driver.proofs.Following.{StandsAt}
use Rattle.split_driver.proofs.player.Player.play_all.Given as goal

abbrev pub invariant-loop-line : goal.invariant-loop-line
invariant-loop-line g l = (l.seat.word ≡ l.fn.seat.word) × StandsAt l.self.actor l.lines l.line-index (stand l.seat l.account)
