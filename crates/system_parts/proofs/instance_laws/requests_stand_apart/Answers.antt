use Rattle.system_parts.proofs.InstanceRequests.{held_of-with_request_same, held_of-with_request_other}
use Rattle.system_parts.proofs.instance_laws.requests_stand_apart.Goals as goal

pub returns-clause-same : goal.returns-clause-same
returns-clause-same c = held_of-with_request_same

pub returns-clause-others : goal.returns-clause-others
returns-clause-others c = held_of-with_request_other
