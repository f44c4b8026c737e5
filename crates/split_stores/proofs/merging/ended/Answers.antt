use Rattle.std.proofs.Common.{sym, subst}
use Rattle.tick_word.specs.Seats.{AreTicks}
use Rattle.split_stores.specs.Merging.{drawn_by}
use Rattle.split_stores.proofs.OrderLemmas.{none_drawn}
use Rattle.split_stores.proofs.merging.ended.Goals as goal

pub returns-in-None : goal.returns-in-None
returns-in-None c = subst (λ w. AreTicks 0 (drawn_by w)) (sym c.in-None.is) none_drawn
