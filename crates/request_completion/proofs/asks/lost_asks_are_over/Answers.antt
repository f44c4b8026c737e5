use Rattle.request_completion.proofs.LostAsks as lemmas
use Rattle.request_completion.proofs.asks.lost_asks_are_over.Goals as goal

pub returns : goal.returns
returns c = lemmas.lost_asks_are_over
