use Rattle.grant_laws.proofs.WorkedWaits.{none_lawful, name_awaited, posts}
use Rattle.grant_laws.proofs.worked_runs.a_name_on_threads.Goals as goal

pub returns-clause-stuck : goal.returns-clause-stuck
returns-clause-stuck c = none_lawful

pub returns-clause-waits : goal.returns-clause-waits
returns-clause-waits c = name_awaited

pub returns-clause-goes_on : goal.returns-clause-goes_on
returns-clause-goes_on c = posts
