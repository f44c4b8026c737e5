use Rattle.request_completion.proofs.EndsKept as lemmas
use Rattle.request_completion.proofs.ends.told_waits_stand.Goals as goal

pub returns : goal.returns
returns c = lemmas.told_waits_stand
