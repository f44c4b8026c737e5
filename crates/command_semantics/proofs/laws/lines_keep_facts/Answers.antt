use Rattle.command_semantics.proofs.Ending.{lines_keep_facts}
use Rattle.command_semantics.proofs.laws.lines_keep_facts.Goals as goal

pub returns : goal.returns
returns c = lines_keep_facts c.events_lower_what_is_left.ensures
