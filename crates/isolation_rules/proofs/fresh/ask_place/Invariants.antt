use Rattle.std.proofs.Common.{◌≡◌, drop, false}
use Rattle.history_book.specs.Isolation.{has_ask}
use Rattle.isolation_rules.proofs.fresh.ask_place.Given as goal

abbrev pub invariant-loop-place : goal.invariant-loop-place
invariant-loop-place l = has_ask l.session (drop l.place l.before) ≡ false
