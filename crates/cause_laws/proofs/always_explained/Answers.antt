use Rattle.cause_laws.proofs.AlwaysExplained.{histories_are_explained}
use Rattle.cause_laws.proofs.always_explained.Goals as goal

pub returns : goal.returns
returns c = histories_are_explained
