use Rattle.grant_laws.proofs.WorkedPremises.{write_can}
use Rattle.grant_laws.proofs.WorkedTurns.{write_history, write_refused}
use Rattle.grant_laws.proofs.worked_runs.a_write_on_threads.Goals as goal

pub returns-clause-can : goal.returns-clause-can
returns-clause-can c = write_can

pub returns-clause-granted : goal.returns-clause-granted
returns-clause-granted c = write_history

pub returns-clause-refused : goal.returns-clause-refused
returns-clause-refused c = write_refused
