use Rattle.request_completion.proofs.EndsKept as lemmas
use Rattle.request_completion.proofs.ends.refusals_are_erased.Goals as goal

pub returns : goal.returns
returns c = lemmas.refusals_are_erased
