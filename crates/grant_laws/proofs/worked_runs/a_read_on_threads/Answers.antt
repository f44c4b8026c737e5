use Rattle.grant_laws.proofs.WorkedPremises.{read_can}
use Rattle.grant_laws.proofs.WorkedTurns.{read_history, read_refused}
use Rattle.grant_laws.proofs.worked_runs.a_read_on_threads.Goals as goal

pub returns-clause-can : goal.returns-clause-can
returns-clause-can c = read_can

pub returns-clause-granted : goal.returns-clause-granted
returns-clause-granted c = read_history

pub returns-clause-refused : goal.returns-clause-refused
returns-clause-refused c = read_refused
