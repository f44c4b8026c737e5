use Rattle.std.proofs.Common.{rules}
use Rattle.std.proofs.lemmas.List.Sorted.{IsNonDecreasingBy-from_sort_by_key}
use Rattle.split_stores.specs.declared.seat.Entry.{Entry}
use Rattle.split_stores.proofs.merging.by_tick.Goals as goal

pub returns-clause-order : goal.returns-clause-order
returns-clause-order c = IsNonDecreasingBy-from_sort_by_key (λ (e : Entry). e.tick) _ c.in_ok-sort_by_key.ensures.sorted (λ a r q k. search rules)
