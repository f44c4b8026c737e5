use Rattle.part_laws.proofs.WorkedParts.{of_one, one_agrees, two_are_not, two_disagree}
use Rattle.part_laws.proofs.worked.parts_of_two_states.Goals as goal

pub returns-clause-one : goal.returns-clause-one
returns-clause-one c = (of_one, one_agrees)

pub returns-clause-two : goal.returns-clause-two
returns-clause-two c = (two_are_not, two_disagree)
