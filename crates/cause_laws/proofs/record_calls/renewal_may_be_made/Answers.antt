use Rattle.cause_laws.proofs.RecordCalls.{renewals_fit}
use Rattle.cause_laws.proofs.record_calls.renewal_may_be_made.Goals as goal

pub returns : goal.returns
returns c = renewals_fit
