use Rattle.request_completion.proofs.CompletionMoves as lemmas
use Rattle.request_completion.proofs.completions.steps_move_completions.Goals as goal

pub returns : goal.returns
returns c = lemmas.steps_move_completions
