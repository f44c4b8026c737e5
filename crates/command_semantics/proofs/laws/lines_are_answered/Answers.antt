use Rattle.command_semantics.proofs.ScriptWalks.{lines_are_answered}
use Rattle.command_semantics.proofs.laws.lines_are_answered.Goals as goal

pub returns : goal.returns
returns c = lines_are_answered c.events_lower_what_is_left.ensures
