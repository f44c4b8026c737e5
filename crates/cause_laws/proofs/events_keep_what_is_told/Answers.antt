use Rattle.cause_laws.proofs.AlwaysExplained.{tells_stay}
use Rattle.cause_laws.proofs.events_keep_what_is_told.Goals as goal

pub returns : goal.returns
returns c = tells_stay
