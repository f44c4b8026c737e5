use Rattle.request_latency.proofs.AllTurns as lemmas
use Rattle.request_latency.proofs.laws.requests_end_within.Goals as goal

pub returns : goal.returns
returns c = lemmas.requests_end_within c.turns_keep_facts.ensures
