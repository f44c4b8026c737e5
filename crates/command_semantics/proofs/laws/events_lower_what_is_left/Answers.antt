use Rattle.command_semantics.proofs.AllLower.{all_lower}
use Rattle.command_semantics.proofs.laws.events_lower_what_is_left.Goals as goal

pub returns : goal.returns
returns c = all_lower c.recalled_reads_end.ensures c.settles_end.ensures
