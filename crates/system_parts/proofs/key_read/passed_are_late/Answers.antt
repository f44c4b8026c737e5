use Rattle.system_parts.proofs.KeyReadLemmas.{passed_front}
use Rattle.system_parts.proofs.key_read.passed_are_late.Goals as goal

pub returns : goal.returns
returns c = passed_front
