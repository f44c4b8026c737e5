use Rattle.planned_cluster.proofs.Fitting.{SessionsAreThere}
use Rattle.run_board.proofs.seated.see_sessions.Given as goal

abbrev pub invariant-loop-line : goal.invariant-loop-line
invariant-loop-line l = SessionsAreThere l.line-index l.lines
