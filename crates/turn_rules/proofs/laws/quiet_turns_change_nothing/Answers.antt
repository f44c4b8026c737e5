use Rattle.turn_rules.proofs.QuietTurns.{quiet_turns_change_nothing}
use Rattle.turn_rules.proofs.laws.quiet_turns_change_nothing.Goals as goal

pub returns : goal.returns
returns c = quiet_turns_change_nothing
