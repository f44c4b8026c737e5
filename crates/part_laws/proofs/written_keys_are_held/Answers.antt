use Rattle.part_laws.proofs.Runs.{keys_held}
use Rattle.part_laws.proofs.written_keys_are_held.Goals as goal

pub returns : goal.returns
returns c = keys_held
