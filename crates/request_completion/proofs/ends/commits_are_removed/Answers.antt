use Rattle.request_completion.proofs.EndsKept as lemmas
use Rattle.request_completion.proofs.ends.commits_are_removed.Goals as goal

pub returns : goal.returns
returns c = lemmas.commits_are_removed
