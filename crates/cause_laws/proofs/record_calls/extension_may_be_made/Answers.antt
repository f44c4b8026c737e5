use Rattle.cause_laws.proofs.RecordCalls.{extensions_fit}
use Rattle.cause_laws.proofs.record_calls.extension_may_be_made.Goals as goal

pub returns : goal.returns
returns c = extensions_fit
