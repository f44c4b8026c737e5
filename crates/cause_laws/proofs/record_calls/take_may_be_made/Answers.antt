use Rattle.cause_laws.proofs.RecordCalls.{takes_fit}
use Rattle.cause_laws.proofs.record_calls.take_may_be_made.Goals as goal

pub returns : goal.returns
returns c = takes_fit
