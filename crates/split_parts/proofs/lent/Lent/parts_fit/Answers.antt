use Rattle.split_parts.proofs.lent.Lent.parts_fit.Goals as goal

pub returns-in-Crash : goal.returns-in-Crash
returns-in-Crash c = rw c.in-Crash.is c.crash_fits.ensures

pub returns-in-AskBegin : goal.returns-in-AskBegin
returns-in-AskBegin c = rw c.in-AskBegin.is c.begin_fits.ensures

pub returns-in-AskCommit : goal.returns-in-AskCommit
returns-in-AskCommit c = rw c.in-AskCommit.is c.commit_fits.ensures

pub returns-in-Write : goal.returns-in-Write
returns-in-Write c = rw c.in-Write.is c.write_fits.ensures

pub returns-in-Step : goal.returns-in-Step
returns-in-Step c = rw c.in-Step.is c.step_fits.ensures

pub returns-in-Accept : goal.returns-in-Accept
returns-in-Accept c = rw c.in-Accept.is c.request_fits.ensures

pub returns-in-Decide : goal.returns-in-Decide
returns-in-Decide c = rw c.in-Decide.is c.request_fits-in-Decide.ensures

pub returns-in-Answer : goal.returns-in-Answer
returns-in-Answer c = rw c.in-Answer.is c.request_fits-in-Answer.ensures
