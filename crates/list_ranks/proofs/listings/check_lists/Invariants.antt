use Rattle.std.proofs.Common.{◌≡◌, ℕ, ◌<◌, Some, slice_get}
use Rattle.trace_rules.specs.Trace.{Done}
use Rattle.list_orders.specs.declared.listing.Listing.{Listing}
use Rattle.list_ranks.specs.Certified.{IsFine}
use Rattle.list_ranks.proofs.listings.check_lists.Given as goal

abbrev pub invariant-loop-place : goal.invariant-loop-place
invariant-loop-place l = (i : ℕ) → i < l.place → (list : Listing) → slice_get l.lists i ≡ Some list → Done l.trace list.txn → IsFine l.trace l.listed l.lists l.hints i list
