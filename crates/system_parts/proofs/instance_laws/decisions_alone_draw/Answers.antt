use Rattle.system_parts.proofs.InstanceMoves.{alone-after_call, alone-refused}
use Rattle.system_parts.proofs.instance_laws.decisions_alone_draw.Goals as goal

pub returns-clause-others : goal.returns-clause-others
returns-clause-others c = alone-after_call

pub returns-clause-refused : goal.returns-clause-refused
returns-clause-refused c = alone-refused
