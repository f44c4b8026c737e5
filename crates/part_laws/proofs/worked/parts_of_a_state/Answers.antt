use Rattle.part_laws.proofs.WorkedParts.{free_is_of, vanishes, has_vanished}
use Rattle.part_laws.proofs.worked.parts_of_a_state.Goals as goal

pub returns-clause-part : goal.returns-clause-part
returns-clause-part c = free_is_of

pub returns-clause-items : goal.returns-clause-items
returns-clause-items c = vanishes

pub returns-clause-state : goal.returns-clause-state
returns-clause-state c = has_vanished
