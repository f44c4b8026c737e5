use Rattle.system_parts.proofs.InstanceBegins.{none_waits, least_is_least}
use Rattle.system_parts.proofs.instance_laws.least_unsettled_is_the_least.Goals as goal

pub returns-clause-none : goal.returns-clause-none
returns-clause-none c = none_waits

pub returns-clause-some : goal.returns-clause-some
returns-clause-some c = least_is_least
