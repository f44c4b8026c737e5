use Rattle.grant_laws.proofs.ServedLines.{runs_grant_begins}
use Rattle.grant_laws.proofs.runs.runs_grant_begins.Goals as goal

pub returns : goal.returns
returns c = runs_grant_begins
