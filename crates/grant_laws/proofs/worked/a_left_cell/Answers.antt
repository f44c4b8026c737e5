use Rattle.grant_laws.proofs.WorkedScripts.{one_left, two_left}
use Rattle.grant_laws.proofs.worked.a_left_cell.Goals as goal

pub returns-clause-one : goal.returns-clause-one
returns-clause-one c = one_left

pub returns-clause-two : goal.returns-clause-two
returns-clause-two c = two_left
