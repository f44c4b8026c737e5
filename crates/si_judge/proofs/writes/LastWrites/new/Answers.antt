use Rattle.si_judge.proofs.IndexLemmas.{writes_empty}
use Rattle.si_judge.proofs.writes.LastWrites.new.Goals as goal

pub returns : goal.returns
returns c = writes_empty c.new.result c.new.ensures.empty
