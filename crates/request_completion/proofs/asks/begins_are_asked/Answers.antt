use Rattle.request_completion.proofs.BegunAsks as lemmas
use Rattle.request_completion.proofs.asks.begins_are_asked.Goals as goal

pub returns : goal.returns
returns c = lemmas.begins_are_asked
