use Rattle.std.proofs.Common.{◌≡◌, ℕ, Some, arith}
use Rattle.trace_rules.specs.Trace.{Done}
use Rattle.list_orders.specs.Lists.{WriteAt}
use Rattle.list_ranks.specs.Certified.{IsPlaced}
use Rattle.list_ranks.specs.Hints.{longest_of}
use Rattle.list_ranks.proofs.CheckLemmas.{below_next}
use Rattle.list_ranks.proofs.writes.check_writes.Goals as goal

pub loop-place-preserved : goal.loop-place-preserved
loop-place-preserved c =
    below_next (λ (q : ℕ). (w k v list : ℕ) → WriteAt c.args.trace.now q w k v → Done c.args.trace.now w → longest_of c.args.hints.now k ≡ Some list → IsPlaced c.args.trace.now c.args.listed.now c.args.lists.now c.args.hints.now q w k v list)
    c.loop-place.place c.loop-place.invariant c.in_ok-check_at.ensures.sound

pub returns-clause-sound : goal.returns-clause-sound
returns-clause-sound c = λ q less. let count = c.operations_in-place-end.ensures in c.loop-place.invariant q (omega (arith, less, count, c.loop-place-test.false))
