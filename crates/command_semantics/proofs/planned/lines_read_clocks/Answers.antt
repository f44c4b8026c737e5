use Rattle.command_semantics.proofs.LineClocks.{lines_read_clocks}
use Rattle.command_semantics.proofs.planned.lines_read_clocks.Goals as goal

pub returns : goal.returns
returns c = lines_read_clocks
