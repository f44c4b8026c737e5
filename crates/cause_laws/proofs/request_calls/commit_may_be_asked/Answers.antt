use Rattle.cause_laws.proofs.RequestCalls.{commits_ask}
use Rattle.cause_laws.proofs.request_calls.commit_may_be_asked.Goals as goal

pub returns : goal.returns
returns c = commits_ask
