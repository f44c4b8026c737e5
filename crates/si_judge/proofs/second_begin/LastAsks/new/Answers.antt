use Rattle.si_judge.proofs.AskIndexLemmas.{no_asks_yet}
use Rattle.si_judge.proofs.second_begin.LastAsks.new.Goals as goal

pub returns : goal.returns
returns c = no_asks_yet 16
