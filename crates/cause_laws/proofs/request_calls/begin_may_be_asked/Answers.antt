use Rattle.cause_laws.proofs.RequestCalls.{begins_ask}
use Rattle.cause_laws.proofs.request_calls.begin_may_be_asked.Goals as goal

pub returns : goal.returns
returns c = begins_ask
