use Rattle.turn_rules.proofs.WholePlan.{turns_are_planned}
use Rattle.turn_rules.proofs.laws.turns_are_planned.Goals as goal

pub returns : goal.returns
returns c = turns_are_planned c.planned_in_the_end.ensures c.turns_are_planned_so_far.ensures
