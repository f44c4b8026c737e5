use Rattle.grant_laws.proofs.BeginsNeverWait.{direct_begins_never_wait}
use Rattle.grant_laws.proofs.granted.direct_begins_never_wait.Goals as goal

pub returns : goal.returns
returns c = direct_begins_never_wait c.events_lower_what_is_left.ensures
