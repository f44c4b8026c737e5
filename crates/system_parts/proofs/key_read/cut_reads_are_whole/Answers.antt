use Rattle.system_parts.proofs.CutReadLemmas.{cut_reads_are_whole}
use Rattle.system_parts.proofs.key_read.cut_reads_are_whole.Goals as goal

pub returns : goal.returns
returns c = cut_reads_are_whole
