use Rattle.grant_laws.proofs.BareReads.{bare_reads_end}
use Rattle.grant_laws.proofs.ReadTurnsMade.{reads_are_carried}
use Rattle.grant_laws.proofs.carried.reads_are_carried.Goals as goal

pub returns : goal.returns
returns c = reads_are_carried (bare_reads_end c.recalled_reads_end.ensures)
