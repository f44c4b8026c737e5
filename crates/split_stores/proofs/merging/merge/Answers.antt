use Rattle.std.proofs.Common.{subst}
use Rattle.tick_word.specs.Seats.{AreTicks}
use Rattle.split_stores.proofs.OrderLemmas.{ordered_by, risen_by_most}
use Rattle.split_stores.proofs.merging.merge.Goals as goal

pub returns-clause-order : goal.returns-clause-order
returns-clause-order c =
    let gathered = c.in_ok-whole.ensures in
    ordered_by (λ v. v.items) _ c.gather.new.entries.items c.ended.result gathered.all (subst (AreTicks c.ended.result) gathered.drawn c.ended.ensures) c.by_tick.result c.by_tick.ensures.all c.by_tick.ensures.order

pub returns-clause-risen : goal.returns-clause-risen
returns-clause-risen c = risen_by_most (λ v. v.items) c.gather.new.entries.items _ c.in_ok-whole.ensures.risen c.by_tick.result c.by_tick.ensures.all
