use Rattle.std.proofs.Common.{rules}
use Rattle.stamped_history.proofs.ToldLemmas.{number_at_place}
use Rattle.stamped_history.proofs.keys.number_of.Goals as goal

pub returns-then-is_at : goal.returns-then-is_at
returns-then-is_at c = number_at_place c.args.keys.now c.place_of-place.result c.args.key c.requires (c.is_at.ensures (search rules))
