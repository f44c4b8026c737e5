use Rattle.std.proofs.Common.{◌≡◌, ℕ, Some, slice_get, rules, arith}
use Rattle.std.proofs.lemmas.Option.{slice_get_within}
use Rattle.trace_rules.specs.Trace.{Done}
use Rattle.list_orders.specs.declared.listing.Listing.{Listing}
use Rattle.list_ranks.specs.Told.{AreDoneMembers}
use Rattle.list_ranks.proofs.CheckLemmas.{below_next}
use Rattle.list_ranks.proofs.dirty.dirty_among.Goals as goal

pub loop-place-preserved : goal.loop-place-preserved
loop-place-preserved c =
    below_next (λ (i : ℕ). (l : Listing) → slice_get c.args.lists.now i ≡ Some l → Done c.args.trace.now l.txn → AreDoneMembers c.args.trace.now c.args.listed.now l) c.loop-place.place c.loop-place.invariant c.in_default.ensures.none

pub returns-clause-none : goal.returns-clause-none
returns-clause-none c = record { each = λ i l at done. let within = slice_get_within c.args.lists.now i l at in c.loop-place.invariant i (omega (arith, within, c.loop-place-test.false)) l at done }
