use Rattle.request_completion.proofs.EndsKept as lemmas
use Rattle.request_completion.proofs.ends.events_keep_ends.Goals as goal

pub returns : goal.returns
returns c = lemmas.events_keep_ends
