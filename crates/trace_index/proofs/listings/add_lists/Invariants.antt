use Rattle.std.proofs.Common.{◌≡◌, ◌++◌, drop}
use Rattle.trace_index.specs.Listings.{lists_reads}
use Rattle.trace_index.proofs.listings.add_lists.Given as goal

abbrev pub invariant-loop-list : goal.invariant-loop-list
invariant-loop-list l = l.sources.items ++ lists_reads l.attempts l.writers l.listed (drop l.list-index l.lists) ≡ l.fn.sources.items ++ lists_reads l.attempts l.writers l.listed l.lists
