use Rattle.cause_laws.proofs.RecordCalls.{counted}
use Rattle.cause_laws.proofs.record_calls.parts_are_counted.Goals as goal

pub returns : goal.returns
returns c = counted
