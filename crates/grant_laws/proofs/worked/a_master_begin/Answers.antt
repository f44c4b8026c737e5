use Rattle.grant_laws.proofs.WorkedMaster.{begin_asks, begin_can, begin_granted, begin_refused}
use Rattle.grant_laws.proofs.worked.a_master_begin.Goals as goal

pub returns-clause-asks : goal.returns-clause-asks
returns-clause-asks c = begin_asks

pub returns-clause-can : goal.returns-clause-can
returns-clause-can c = begin_can

pub returns-clause-granted : goal.returns-clause-granted
returns-clause-granted c = begin_granted c.begins_are_granted.ensures

pub returns-clause-refused : goal.returns-clause-refused
returns-clause-refused c = begin_refused
