use Rattle.std.proofs.Common.{◌≡◌, drop}
use Rattle.std.specs.List.{list_any}
use Rattle.isolation_rules.specs.Best.{lists}
use Rattle.isolation_rules.proofs.visible.any_lists.Given as goal

abbrev pub invariant-loop-item : goal.invariant-loop-item
invariant-loop-item l = list_any (λ x. lists l.txn x) (drop l.item-index l.items) ≡ list_any (λ x. lists l.txn x) l.items
