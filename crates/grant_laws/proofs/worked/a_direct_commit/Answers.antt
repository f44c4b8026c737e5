use Rattle.grant_laws.proofs.WorkedDirect.{direct_can, direct_granted, direct_refused, direct_begins}
use Rattle.grant_laws.proofs.worked.a_direct_commit.Goals as goal

pub returns-clause-can : goal.returns-clause-can
returns-clause-can c = direct_can

pub returns-clause-granted : goal.returns-clause-granted
returns-clause-granted c = direct_granted c.commits_are_granted.ensures

pub returns-clause-refused : goal.returns-clause-refused
returns-clause-refused c = direct_refused

pub returns-clause-begins : goal.returns-clause-begins
returns-clause-begins c = direct_begins
