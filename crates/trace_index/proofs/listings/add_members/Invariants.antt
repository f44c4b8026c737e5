use Rattle.std.proofs.Common.{◌≡◌, ◌++◌, drop}
use Rattle.trace_index.specs.Listings.{member_reads}
use Rattle.trace_index.proofs.listings.add_members.Given as goal

abbrev pub invariant-loop-value : goal.invariant-loop-value
invariant-loop-value l = l.sources.items ++ member_reads l.attempts l.writers l.txn l.key (drop l.value-index l.values) ≡ l.fn.sources.items ++ member_reads l.attempts l.writers l.txn l.key l.values
