use Rattle.command_semantics.proofs.PlannedLines.{scripts_are_planned}
use Rattle.command_semantics.proofs.planned.scripts_are_planned.Goals as goal

pub returns : goal.returns
returns c = scripts_are_planned c.events_lower_what_is_left.ensures
