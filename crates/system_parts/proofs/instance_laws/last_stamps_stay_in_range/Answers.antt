use Rattle.system_parts.proofs.InstanceNumbers.{new_in_range, stays_in_range}
use Rattle.system_parts.proofs.instance_laws.last_stamps_stay_in_range.Goals as goal

pub returns-clause-granted : goal.returns-clause-granted
returns-clause-granted c = new_in_range

pub returns-clause-kept : goal.returns-clause-kept
returns-clause-kept c = stays_in_range
