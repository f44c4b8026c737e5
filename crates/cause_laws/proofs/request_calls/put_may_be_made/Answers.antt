use Rattle.cause_laws.proofs.RequestCalls.{puts_place}
use Rattle.cause_laws.proofs.request_calls.put_may_be_made.Goals as goal

pub returns : goal.returns
returns c = puts_place
