use Rattle.part_laws.proofs.WorkedParts.{vanished_is_not, vanished_is_refused}
use Rattle.part_laws.proofs.worked.parts_of_no_state.Goals as goal

pub returns-clause-none : goal.returns-clause-none
returns-clause-none c = vanished_is_not

pub returns-clause-other : goal.returns-clause-other
returns-clause-other c = vanished_is_refused
