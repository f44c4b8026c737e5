use Rattle.std.proofs.Common.{◌≤◌, ℕ, get_or, subst}
use Rattle.std.proofs.lemmas.Option.{IfSome_then}
use Rattle.rank_orders.specs.Rise.{IsTopped}
use Rattle.rank_orders.proofs.RankLemmas.{takes_rank}
use Rattle.rank_orders.proofs.rise.height_behind.Goals as goal

pub returns : goal.returns
returns c =
    let most : c.in_ok-raised.raised.under ≤ get_or c.args.numbers.now c.args.rank.txn 0 = subst (λ (n : ℕ). c.in_ok-raised.raised.under ≤ n) c.number_at.ensures c.if-number_at-raised.false in
    IfSome_then c.topped.result c.topped.ensures (λ next top.
    takes_rank c.args.count c.args.starts c.args.numbers.now c.args.height c.in_ok-raised.raised next c.args.rank c.in_ok-raised.ensures c.if-rank-count.false most
    (subst (λ (n : ℕ). IsTopped c.in_ok-raised.raised n next) c.number_behind.ensures top))
