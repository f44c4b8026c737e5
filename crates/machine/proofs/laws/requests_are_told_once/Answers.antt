use Rattle.machine.proofs.ToldOnce.{told_once}
use Rattle.machine.proofs.laws.requests_are_told_once.Goals as goal

pub returns : goal.returns
returns c = told_once
