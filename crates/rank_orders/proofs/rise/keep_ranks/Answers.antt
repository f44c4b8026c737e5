use Rattle.std.proofs.Common.{length}
use Rattle.rank_orders.proofs.RankLemmas.{ranks_kept}
use Rattle.rank_orders.proofs.rise.keep_ranks.Goals as goal

pub returns : goal.returns
returns c = λ go. ranks_kept c.args.level (length c.args.transactions.now) c.args.starts c.args.numbers.now c.args.ranks.now c.requires (c.ranks_rise.ensures go)
