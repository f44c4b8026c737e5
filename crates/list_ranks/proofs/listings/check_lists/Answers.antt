use Rattle.std.proofs.Common.{◌≡◌, ℕ, Some, slice_get, arith}
use Rattle.trace_rules.specs.Trace.{Done}
use Rattle.list_orders.specs.declared.listing.Listing.{Listing}
use Rattle.list_ranks.specs.Certified.{IsFine}
use Rattle.list_ranks.proofs.CheckLemmas.{below_next}
use Rattle.list_ranks.proofs.listings.check_lists.Goals as goal

pub loop-place-preserved : goal.loop-place-preserved
loop-place-preserved c = below_next (λ (i : ℕ). (l : Listing) → slice_get c.args.lists.now i ≡ Some l → Done c.args.trace.now l.txn → IsFine c.args.trace.now c.args.listed.now c.args.lists.now c.args.hints.now i l) c.loop-place.place c.loop-place.invariant c.in_ok-check_at.ensures.sound

pub returns-clause-sound : goal.returns-clause-sound
returns-clause-sound c = λ i less. c.loop-place.invariant i (omega (arith, less, c.loop-place-test.false))
