use Rattle.cause_laws.proofs.AlwaysExplained.{tells_at_first}
use Rattle.cause_laws.proofs.told_at_first.Goals as goal

pub returns : goal.returns
returns c = tells_at_first
