use Rattle.request_completion.proofs.TurnsOfOutcomes as lemmas
use Rattle.request_completion.proofs.turns.session_turns.Goals as goal

pub returns : goal.returns
returns c = lemmas.session_turns
