use Rattle.si_judge.proofs.AskIndexLemmas.{no_asks_yet, no_starts}
use Rattle.si_judge.proofs.ask_index.Asked.new.Goals as goal

pub returns : goal.returns
returns c = record { each = c.in_ok-vec.ensures.len; asks = no_asks_yet 16; starts = no_starts _ _ }
