use Rattle.std.proofs.Common.{◌≡◌, ℕ, Some, rules, arith}
use Rattle.std.proofs.lemmas.Option.{slice_get_within}
use Rattle.list_orders.specs.Lists.{WriteAt}
use Rattle.list_ranks.specs.Hints.{home_of}
use Rattle.list_ranks.proofs.CheckLemmas.{below_next}
use Rattle.list_ranks.proofs.homes.are_homes.Goals as goal

pub loop-place-preserved : goal.loop-place-preserved
loop-place-preserved c = below_next (λ (q : ℕ). (w k v : ℕ) → WriteAt c.args.trace.now q w k v → home_of c.args.hints.now k v ≡ Some q) c.loop-place.place c.loop-place.invariant (c.is_home.ensures (search rules))

pub returns : goal.returns
returns c = λ go q w k v at. let within = slice_get_within c.args.trace.now.operations q _ at in let count = c.operations_in-place-end.ensures in c.loop-place.invariant q (omega (arith, within, count, c.loop-place-test.false)) w k v at
