use Rattle.std.proofs.Common.{◌≡◌, ℕ, ◌<◌, Some, slice_get}
use Rattle.trace_rules.specs.Trace.{Done}
use Rattle.list_orders.specs.declared.listing.Listing.{Listing}
use Rattle.list_ranks.specs.Told.{AreDoneMembers}
use Rattle.list_ranks.proofs.dirty.dirty_among.Given as goal

abbrev pub invariant-loop-place : goal.invariant-loop-place
invariant-loop-place l = (i : ℕ) → i < l.place → (list : Listing) → slice_get l.lists i ≡ Some list → Done l.trace list.txn → AreDoneMembers l.trace l.listed list
