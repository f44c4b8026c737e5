use Rattle.std.proofs.Common.{◌≡◌, ◌++◌, drop}
use Rattle.trace_index.specs.Listings.{listings_from}
use Rattle.trace_index.proofs.listings.listings_of.Given as goal

abbrev pub invariant-loop-place : goal.invariant-loop-place
invariant-loop-place l = l.lists.items ++ listings_from l.place (drop l.place l.said) ≡ listings_from 0 l.said
