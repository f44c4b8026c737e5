use Rattle.machine.proofs.Inversions.Inversion.{comes_to}
use Rattle.machine.proofs.laws.events_come_to_outcomes.Goals as goal

pub returns : goal.returns
returns c = comes_to
