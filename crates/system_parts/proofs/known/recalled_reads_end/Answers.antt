use Rattle.system_parts.proofs.RecalledReadLemmas.{recalled_reads_end}
use Rattle.system_parts.proofs.known.recalled_reads_end.Goals as goal

pub returns : goal.returns
returns c = recalled_reads_end
