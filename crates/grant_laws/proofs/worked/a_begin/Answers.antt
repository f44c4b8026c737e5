use Rattle.grant_laws.proofs.WorkedScripts.{begin_can, begin_history, begin_can_earlier, begin_refused}
use Rattle.grant_laws.proofs.worked.a_begin.Goals as goal

pub returns-clause-can : goal.returns-clause-can
returns-clause-can c = begin_can

pub returns-clause-granted : goal.returns-clause-granted
returns-clause-granted c = begin_history

pub returns-clause-lacks_lease : goal.returns-clause-lacks_lease
returns-clause-lacks_lease c = begin_can_earlier

pub returns-clause-refused : goal.returns-clause-refused
returns-clause-refused c = begin_refused
