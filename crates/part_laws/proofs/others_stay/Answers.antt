use Rattle.part_laws.proofs.OtherParts.{others_stay as stay}
use Rattle.part_laws.proofs.others_stay.Goals as goal

pub returns : goal.returns
returns c = stay
