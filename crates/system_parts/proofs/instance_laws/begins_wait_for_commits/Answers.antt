use Rattle.system_parts.proofs.InstanceBegins.{begun_rests}
use Rattle.system_parts.proofs.instance_laws.begins_wait_for_commits.Goals as goal

pub returns-clause-epoch : goal.returns-clause-epoch
returns-clause-epoch c = λ i session start epoch e. (begun_rests i session start epoch e).0

pub returns-clause-settled : goal.returns-clause-settled
returns-clause-settled c = λ i session start epoch e. (begun_rests i session start epoch e).1
