use Rattle.replay_driver.proofs.Storming.{adds_both, one_line}
use Rattle.replay_driver.proofs.storm.add_work.Goals as goal

pub returns-clause-lines : goal.returns-clause-lines
returns-clause-lines c =
    adds_both _ _ _ _ _
    (adds_both _ _ _ _ _
    (one_line _ _ _ _ _ _ c.session_for.ensures c.begin.ensures c.in_ok-add.ensures.lines)
    (one_line _ _ _ _ _ _ c.session_for-2.ensures c.read.ensures c.in_ok-add-2.ensures.lines))
    (one_line _ _ _ _ _ _ c.session_for-3.ensures c.write.ensures c.in_ok-add-3.ensures.lines)
