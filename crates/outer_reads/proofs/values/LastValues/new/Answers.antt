use Rattle.outer_reads.proofs.LastLemmas.{nothing_last}
use Rattle.outer_reads.proofs.values.LastValues.new.Goals as goal

pub returns : goal.returns
returns c = nothing_last c.new.result c.new.ensures.empty
