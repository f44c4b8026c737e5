use Rattle.grant_laws.proofs.WorkedPremises.{wait_can}
use Rattle.grant_laws.proofs.WorkedTurns.{wait_history}
use Rattle.grant_laws.proofs.worked_runs.an_early_answer_on_threads.Goals as goal

pub returns-clause-can : goal.returns-clause-can
returns-clause-can c = wait_can

pub returns-clause-granted : goal.returns-clause-granted
returns-clause-granted c = wait_history
