use Rattle.grant_laws.proofs.LeftRequests.{early_answers_wait}
use Rattle.grant_laws.proofs.between.early_answers_wait.Goals as goal

pub returns : goal.returns
returns c = early_answers_wait
