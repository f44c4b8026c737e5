use Rattle.conflict_buckets.proofs.PairLemmas.{forgotten}
use Rattle.conflict_buckets.proofs.pairs.forget_oldest.Goals as goal

pub returns-clause-oldest : goal.returns-clause-oldest
returns-clause-oldest c = forgotten c.args.kept.now c.remove.new.kept c.oldest_of-out.result c.oldest_of-out.ensures c.remove.ensures.removed
