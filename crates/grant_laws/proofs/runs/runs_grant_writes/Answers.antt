use Rattle.grant_laws.proofs.OwnLines.{runs_grant_writes}
use Rattle.grant_laws.proofs.runs.runs_grant_writes.Goals as goal

pub returns : goal.returns
returns c = runs_grant_writes
