use Rattle.request_latency.proofs.AllTurns as lemmas
use Rattle.request_latency.proofs.laws.runs_serve_within.Goals as goal

pub returns : goal.returns
returns c = lemmas.runs_serve_within
