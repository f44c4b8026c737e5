use Rattle.system_parts.proofs.InstanceNumbers.{goes_up}
use Rattle.system_parts.proofs.instance_laws.instances_go_up.Goals as goal

pub returns : goal.returns
returns c = goes_up
