use Rattle.request_completion.proofs.IdleSteps as lemmas
use Rattle.request_completion.proofs.completions.completion_steps_tell.Goals as goal

pub returns : goal.returns
returns c = lemmas.completion_steps_tell
