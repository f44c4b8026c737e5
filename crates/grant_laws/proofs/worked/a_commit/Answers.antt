use Rattle.grant_laws.proofs.WorkedScripts.{commit_can, commit_granted, commit_refused}
use Rattle.grant_laws.proofs.worked.a_commit.Goals as goal

pub returns-clause-can : goal.returns-clause-can
returns-clause-can c = commit_can

pub returns-clause-granted : goal.returns-clause-granted
returns-clause-granted c = commit_granted c.commits_are_granted.ensures

pub returns-clause-refused : goal.returns-clause-refused
returns-clause-refused c = commit_refused
