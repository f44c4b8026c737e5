use Rattle.grant_laws.proofs.Placings.{commit_lines_place}
use Rattle.grant_laws.proofs.runs.commit_lines_place.Goals as goal

pub returns : goal.returns
returns c = commit_lines_place
