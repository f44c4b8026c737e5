use Rattle.request_completion.proofs.OverAsks as lemmas
use Rattle.request_completion.proofs.asks.closed_asks_are_over.Goals as goal

pub returns : goal.returns
returns c = lemmas.closed_asks_are_over
