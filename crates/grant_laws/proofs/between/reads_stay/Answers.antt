use Rattle.grant_laws.proofs.OtherTurns.{reads_stay}
use Rattle.grant_laws.proofs.between.reads_stay.Goals as goal

pub returns : goal.returns
returns c = reads_stay
