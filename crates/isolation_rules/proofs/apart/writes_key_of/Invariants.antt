use Rattle.std.proofs.Common.{◌≡◌, drop}
use Rattle.std.specs.List.{list_any}
use Rattle.isolation_rules.specs.ApartPairs.{writes_shared}
use Rattle.isolation_rules.proofs.apart.writes_key_of.Given as goal

abbrev pub invariant-loop-item : goal.invariant-loop-item
invariant-loop-item l = list_any (λ x. writes_shared l.items l.start l.other x) (drop l.item-index l.some) ≡ list_any (λ x. writes_shared l.items l.start l.other x) l.some
