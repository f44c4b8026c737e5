use Rattle.request_completion.proofs.EndsKept as lemmas
use Rattle.request_completion.proofs.ends.ends_at_first.Goals as goal

pub returns : goal.returns
returns c = lemmas.ends_at_first
