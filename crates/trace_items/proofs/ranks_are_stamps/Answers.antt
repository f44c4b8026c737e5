use Rattle.trace_items.proofs.Ranks.{ranks_isolate, ranks_order}
use Rattle.trace_items.proofs.ranks_are_stamps.Goals as goal

pub returns-clause-order : goal.returns-clause-order
returns-clause-order c = ranks_order

pub returns-clause-isolated : goal.returns-clause-isolated
returns-clause-isolated c = λ level st ranks trace points order ranked is. ranks_isolate st ranks trace points order ranked level is
