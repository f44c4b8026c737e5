use Rattle.std.specs.FinMap as map
use Rattle.split_parts.proofs.accessing.heal_rows.Goals as goal

pub returns : goal.returns
returns c = c.heal.ensures.made map.empty
