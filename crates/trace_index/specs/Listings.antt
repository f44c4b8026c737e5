-- The lists that were read, and the reads of open transactions that they tell of.
use Rattle.std.specs.Prelude.{ℕ, ◌+◌, if◌then◌else◌, List, [], ◌∷◌, ◌++◌, Option, None, Some, slice_get}
use Rattle.trace_reading.specs.declared.operation.Operation.{Operation}
use Rattle.trace_reading.specs.declared.operation.Operation.TheVariants as said
use Rattle.trace_rules.specs.declared.trace.Operation as judged
use Rattle.trace_rules.specs.declared.trace.Operation.TheVariants.{Read}
use Rattle.list_orders.specs.declared.listing.Listing.{Listing}
use Rattle.list_orders.specs.Listings.{values_of}
use Rattle.trace_index.specs.declared.attempts.Attempt.{Attempt}
use Rattle.trace_index.specs.declared.said.Said.{Said}
use Rattle.trace_index.specs.Versions.{Writers, writer_of}
use Rattle.trace_index.specs.Open.{open_at}

-- the list that the operation at this place reads, where it reads one
abbrev pub listing_of : ℕ → ℕ → Operation → List Listing
listing_of place txn (said.Read key answer version) = []
listing_of place txn (said.ReadList key first end) = record { place = place; txn = txn; key = key; first = first; end = end } ∷ []
listing_of place txn (said.Write key value version) = []
listing_of place txn (said.Append key value) = []

-- of the operations from this place on
abbrev pub listings_from : ℕ → List Said → List Listing
listings_from place [] = []
listings_from place (s ∷ ss) = listing_of place s.txn s.operation ++ listings_from (place + 1) ss

-- a member of an open transaction counts as read too
abbrev pub member_read : List Attempt → ℕ → ℕ → ℕ → Option ℕ → List judged.Operation
member_read attempts txn key value None = []
member_read attempts txn key value (Some from) = if open_at (slice_get attempts from) then Read txn key (Some (record { from = from; value = value })) ∷ [] else []

abbrev pub member_reads : List Attempt → Writers → ℕ → ℕ → List ℕ → List judged.Operation
member_reads attempts writers txn key [] = []
member_reads attempts writers txn key (value ∷ values) = member_read attempts txn key value (writer_of writers key value) ++ member_reads attempts writers txn key values

abbrev pub lists_reads : List Attempt → Writers → List ℕ → List Listing → List judged.Operation
lists_reads attempts writers listed [] = []
lists_reads attempts writers listed (l ∷ ls) = member_reads attempts writers l.txn l.key (values_of listed l) ++ lists_reads attempts writers listed ls
