use Rattle.system_parts.proofs.RecalledReadLemmas.{nothing_kept_is_plain}
use Rattle.system_parts.proofs.known.nothing_kept_is_plain.Goals as goal

pub returns : goal.returns
returns c = nothing_kept_is_plain
