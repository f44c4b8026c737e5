use Rattle.std.proofs.Common.{◌≡◌, drop}
use Rattle.std.specs.List.{list_any}
use Rattle.isolation_rules.specs.ApartPairs.{writes}
use Rattle.isolation_rules.proofs.apart.wrote.Given as goal

abbrev pub invariant-loop-item : goal.invariant-loop-item
invariant-loop-item l = list_any (λ x. writes l.start l.key x) (drop l.item-index l.items) ≡ list_any (λ x. writes l.start l.key x) l.items
