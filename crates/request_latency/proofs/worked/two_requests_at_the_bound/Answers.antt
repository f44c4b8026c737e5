use Rattle.request_latency.proofs.WorkedRun.{history, run_lawful, commit_served, begin_served}
use Rattle.request_latency.proofs.worked.two_requests_at_the_bound.Goals as goal

pub returns-clause-history : goal.returns-clause-history
returns-clause-history c = history

pub returns-clause-lawful : goal.returns-clause-lawful
returns-clause-lawful c = run_lawful

pub returns-clause-commit : goal.returns-clause-commit
returns-clause-commit c = commit_served

pub returns-clause-begin : goal.returns-clause-begin
returns-clause-begin c = begin_served
