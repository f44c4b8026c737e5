use Rattle.grant_laws.proofs.WorkedPremises.{commit_can}
use Rattle.grant_laws.proofs.WorkedTurns.{commit_granted, commit_refused}
use Rattle.grant_laws.proofs.worked_runs.a_commit_on_threads.Goals as goal

pub returns-clause-can : goal.returns-clause-can
returns-clause-can c = commit_can

pub returns-clause-granted : goal.returns-clause-granted
returns-clause-granted c = commit_granted c.runs_grant_commits.ensures

pub returns-clause-refused : goal.returns-clause-refused
returns-clause-refused c = commit_refused
