use Rattle.request_completion.proofs.IdleSteps as lemmas
use Rattle.request_completion.proofs.completions.idle_steps_complete_nothing.Goals as goal

pub returns : goal.returns
returns c = lemmas.idle_steps_complete_nothing
