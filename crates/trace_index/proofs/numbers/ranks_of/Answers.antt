use Rattle.trace_index.proofs.KeptLemmas.{all_done}
use Rattle.trace_index.proofs.numbers.ranks_of.Goals as goal

pub returns-clause-done : goal.returns-clause-done
returns-clause-done c = all_done c.args.transactions.now _ c.keep_done.new.ranks.items c.keep_done.ensures
