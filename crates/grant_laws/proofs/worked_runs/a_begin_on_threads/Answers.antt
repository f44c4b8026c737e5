use Rattle.grant_laws.proofs.WorkedPremises.{begin_can}
use Rattle.grant_laws.proofs.WorkedTurns.{begin_history, begin_refused}
use Rattle.grant_laws.proofs.worked_runs.a_begin_on_threads.Goals as goal

pub returns-clause-can : goal.returns-clause-can
returns-clause-can c = begin_can

pub returns-clause-granted : goal.returns-clause-granted
returns-clause-granted c = begin_history

pub returns-clause-refused : goal.returns-clause-refused
returns-clause-refused c = begin_refused
