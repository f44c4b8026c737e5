use Rattle.request_completion.proofs.EndsKept as lemmas
use Rattle.request_completion.proofs.ends.open_outcomes_were_told.Goals as goal

pub returns : goal.returns
returns c = lemmas.open_outcomes_were_told
