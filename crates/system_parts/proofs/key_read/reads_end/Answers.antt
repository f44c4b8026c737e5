use Rattle.system_parts.proofs.KeyReadLemmas.{reads_end}
use Rattle.system_parts.proofs.key_read.reads_end.Goals as goal

pub returns : goal.returns
returns c = reads_end
