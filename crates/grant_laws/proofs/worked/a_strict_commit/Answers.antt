use Rattle.grant_laws.proofs.WorkedCrossing.{crossing_can, crossing_granted, crossing_refused}
use Rattle.grant_laws.proofs.worked.a_strict_commit.Goals as goal

pub returns-clause-can : goal.returns-clause-can
returns-clause-can c = crossing_can

pub returns-clause-granted : goal.returns-clause-granted
returns-clause-granted c = crossing_granted c.commits_are_granted.ensures

pub returns-clause-refused : goal.returns-clause-refused
returns-clause-refused c = crossing_refused
