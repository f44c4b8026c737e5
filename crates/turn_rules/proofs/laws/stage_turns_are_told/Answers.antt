use Rattle.turn_rules.proofs.StageTold.{stage_turns_are_told}
use Rattle.turn_rules.proofs.laws.stage_turns_are_told.Goals as goal

pub returns : goal.returns
returns c = stage_turns_are_told
