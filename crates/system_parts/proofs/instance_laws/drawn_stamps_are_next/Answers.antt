use Rattle.system_parts.proofs.InstanceNumbers.{stamp_next}
use Rattle.system_parts.proofs.instance_laws.drawn_stamps_are_next.Goals as goal

pub returns : goal.returns
returns c = stamp_next
