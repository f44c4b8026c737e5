use Rattle.run_board.proofs.Names.{arith, one_more_there}
use Rattle.run_board.proofs.seated.see_sessions.Goals as goal

pub loop-line-preserved : goal.loop-line-preserved
loop-line-preserved c = one_more_there c.loop-line.line-index c.args.lines.now c.line-item.result (omega (arith, c.loop-line-test.true)) c.line-item.is c.loop-line.invariant c.see_session.ensures

pub returns : goal.returns
returns c = λ k d here. c.loop-line.invariant k d (omega (arith, here, c.loop-line-test.false)) here
