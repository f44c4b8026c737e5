use Rattle.grant_laws.proofs.WorkedDirect.{direct_can_by, direct_granted_by, direct_refused_by}
use Rattle.grant_laws.proofs.worked_runs.a_direct_commit_on_threads.Goals as goal

pub returns-clause-can : goal.returns-clause-can
returns-clause-can c = direct_can_by

pub returns-clause-granted : goal.returns-clause-granted
returns-clause-granted c = direct_granted_by c.runs_grant_commits.ensures

pub returns-clause-refused : goal.returns-clause-refused
returns-clause-refused c = direct_refused_by
