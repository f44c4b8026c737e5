use Rattle.grant_laws.proofs.WorkedMaster.{aimed_asks, aimed_can, aimed_granted, aimed_refused}
use Rattle.grant_laws.proofs.worked_runs.a_master_begin_on_threads.Goals as goal

pub returns-clause-asks : goal.returns-clause-asks
returns-clause-asks c = aimed_asks

pub returns-clause-can : goal.returns-clause-can
returns-clause-can c = aimed_can

pub returns-clause-granted : goal.returns-clause-granted
returns-clause-granted c = aimed_granted c.runs_grant_begins.ensures

pub returns-clause-refused : goal.returns-clause-refused
returns-clause-refused c = aimed_refused
