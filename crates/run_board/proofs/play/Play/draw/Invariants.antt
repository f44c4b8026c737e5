use Rattle.run_board.proofs.Names.{Request, MakesSteps}
use Rattle.run_board.proofs.play.Play.draw.Given as goal

abbrev pub invariant-loop-step : goal.invariant-loop-step
invariant-loop-step g l = MakesSteps l.node l.term Request l.session l.fn.self l.self
