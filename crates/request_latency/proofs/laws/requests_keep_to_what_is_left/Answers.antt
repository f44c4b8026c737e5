use Rattle.request_latency.proofs.AllTurns as lemmas
use Rattle.request_latency.proofs.laws.requests_keep_to_what_is_left.Goals as goal

pub returns : goal.returns
returns c = lemmas.requests_keep_to_what_is_left c.turns_keep_facts.ensures
