use Rattle.grant_laws.proofs.WorkedMaster.{commit_asks, commit_can, commit_granted}
use Rattle.grant_laws.proofs.worked.a_master_commit.Goals as goal

pub returns-clause-asks : goal.returns-clause-asks
returns-clause-asks c = commit_asks

pub returns-clause-can : goal.returns-clause-can
returns-clause-can c = commit_can

pub returns-clause-granted : goal.returns-clause-granted
returns-clause-granted c = commit_granted c.commits_are_granted.ensures
