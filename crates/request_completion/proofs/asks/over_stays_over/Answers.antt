use Rattle.request_completion.proofs.OverAsks as lemmas
use Rattle.request_completion.proofs.asks.over_stays_over.Goals as goal

pub returns : goal.returns
returns c = lemmas.over_stays_over
