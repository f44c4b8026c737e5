use Rattle.grant_laws.proofs.WorkedScripts.{take_can, take_history, take_can_later, take_refused}
use Rattle.grant_laws.proofs.worked.a_take.Goals as goal

pub returns-clause-can : goal.returns-clause-can
returns-clause-can c = take_can

pub returns-clause-granted : goal.returns-clause-granted
returns-clause-granted c = take_history

pub returns-clause-lacks_time : goal.returns-clause-lacks_time
returns-clause-lacks_time c = take_can_later

pub returns-clause-refused : goal.returns-clause-refused
returns-clause-refused c = take_refused
