use Rattle.cause_laws.proofs.RecordCalls.{draws_fit}
use Rattle.cause_laws.proofs.record_calls.draw_may_be_made.Goals as goal

pub returns : goal.returns
returns c = draws_fit
