use Rattle.system_parts.proofs.KeyReadLemmas.{answers_own_or_below}
use Rattle.system_parts.proofs.key_read.answers_own_or_below.Goals as goal

pub returns : goal.returns
returns c = answers_own_or_below
