use Rattle.system_parts.proofs.InstanceRequests.{held_of-instance_new, held_of-after_call_other, length-after_call}
use Rattle.system_parts.proofs.instance_laws.calls_leave_other_requests.Goals as goal

pub returns-clause-granted : goal.returns-clause-granted
returns-clause-granted c = held_of-instance_new

pub returns-clause-places : goal.returns-clause-places
returns-clause-places c = length-after_call

pub returns-clause-others : goal.returns-clause-others
returns-clause-others c = held_of-after_call_other
