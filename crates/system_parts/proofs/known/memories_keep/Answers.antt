use Rattle.system_parts.proofs.CacheLemmas.{memories_keep}
use Rattle.system_parts.proofs.known.memories_keep.Goals as goal

pub returns : goal.returns
returns c = memories_keep
