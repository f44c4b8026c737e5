use Rattle.part_laws.proofs.Runs.{reached_agree}
use Rattle.part_laws.proofs.reached_parts_agree.Goals as goal

pub returns : goal.returns
returns c = reached_agree
