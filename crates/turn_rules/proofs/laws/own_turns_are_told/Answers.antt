use Rattle.turn_rules.proofs.OwnTold.{own_turns_are_told}
use Rattle.turn_rules.proofs.laws.own_turns_are_told.Goals as goal

pub returns : goal.returns
returns c = own_turns_are_told
