use Rattle.part_laws.proofs.EventsLocal.{acts}
use Rattle.part_laws.proofs.acts_are_steps.Goals as goal

pub returns : goal.returns
returns c = acts
