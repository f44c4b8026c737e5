use Rattle.session_script.specs.Script.{data_of}
use Rattle.command_semantics.specs.Left.{left}
use Rattle.replay_driver.specs.Playing.{played_to}
use Rattle.replay_driver.proofs.Running.{IsUnderWay, turns_left}
use Rattle.replay_driver.proofs.driver.play_line.Given as goal

abbrev pub invariant-loop-line : goal.invariant-loop-line
invariant-loop-line l = IsUnderWay (data_of l.script) l.line (played_to (data_of l.script) l.place) l.play l.point

abbrev pub decreases-loop-line : goal.decreases-loop-line
decreases-loop-line l = turns_left l.point (left l.play.cluster.state l.line.actor l.line.verb l.point)
