use Rattle.thread_steps.specs.Going.{GoesOn}
use Rattle.run_board.proofs.play.Play.stretch.Given as goal

abbrev pub invariant-loop-more : goal.invariant-loop-more
invariant-loop-more g l = GoesOn l.fn.mine l.mine
