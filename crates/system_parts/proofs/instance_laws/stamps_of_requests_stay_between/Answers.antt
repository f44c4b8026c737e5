use Rattle.system_parts.proofs.InstanceStamps.{new_within, call_within}
use Rattle.system_parts.proofs.instance_laws.stamps_of_requests_stay_between.Goals as goal

pub returns-clause-granted : goal.returns-clause-granted
returns-clause-granted c = new_within

pub returns-clause-kept : goal.returns-clause-kept
returns-clause-kept c = call_within
