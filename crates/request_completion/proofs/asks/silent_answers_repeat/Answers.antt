use Rattle.request_completion.proofs.SilentAnswers as lemmas
use Rattle.request_completion.proofs.asks.silent_answers_repeat.Goals as goal

pub returns : goal.returns
returns c = lemmas.silent_answers_repeat
