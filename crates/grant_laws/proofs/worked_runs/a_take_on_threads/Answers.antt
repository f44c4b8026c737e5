use Rattle.grant_laws.proofs.WorkedPremises.{take_can}
use Rattle.grant_laws.proofs.WorkedTurns.{take_history, take_refused}
use Rattle.grant_laws.proofs.worked_runs.a_take_on_threads.Goals as goal

pub returns-clause-can : goal.returns-clause-can
returns-clause-can c = take_can

pub returns-clause-granted : goal.returns-clause-granted
returns-clause-granted c = take_history

pub returns-clause-refused : goal.returns-clause-refused
returns-clause-refused c = take_refused
