use Rattle.request_completion.proofs.OwingOutcomes as lemmas
use Rattle.request_completion.proofs.asks.commits_are_asked.Goals as goal

pub returns : goal.returns
returns c = lemmas.commits_are_asked
