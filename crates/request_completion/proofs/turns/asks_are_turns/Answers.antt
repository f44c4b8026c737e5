use Rattle.request_completion.proofs.AskTurns as lemmas
use Rattle.request_completion.proofs.turns.asks_are_turns.Goals as goal

pub returns : goal.returns
returns c = lemmas.asks_are_turns
