use Rattle.system_parts.proofs.InstanceRequests.{fits-instance_new, fits-after_call}
use Rattle.system_parts.proofs.instance_laws.requests_fit_the_slots.Goals as goal

pub returns-clause-granted : goal.returns-clause-granted
returns-clause-granted c = fits-instance_new

pub returns-clause-kept : goal.returns-clause-kept
returns-clause-kept c = fits-after_call
