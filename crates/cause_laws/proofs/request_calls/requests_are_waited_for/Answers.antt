use Rattle.cause_laws.proofs.RequestCalls.{requests_wait}
use Rattle.cause_laws.proofs.request_calls.requests_are_waited_for.Goals as goal

pub returns : goal.returns
returns c = requests_wait
