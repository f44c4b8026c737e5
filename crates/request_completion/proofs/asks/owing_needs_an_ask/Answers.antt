use Rattle.request_completion.proofs.OwingOutcomes as lemmas
use Rattle.request_completion.proofs.asks.owing_needs_an_ask.Goals as goal

pub returns : goal.returns
returns c = lemmas.owing_needs_an_ask
