use Rattle.system_parts.proofs.RecalledReadLemmas.{cut_recalls_are_whole}
use Rattle.system_parts.proofs.known.cut_recalls_are_whole.Goals as goal

pub returns : goal.returns
returns c = cut_recalls_are_whole
