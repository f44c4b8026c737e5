-- The trace that a recording is judged by.
use Rattle.std.specs.Prelude.{◌≡◌, ℕ, ◌+◌, Bool, List, [], ◌∷◌, ◌++◌, Result, Ok, map}
use Rattle.trace_rules.specs.declared.trace.Operation.{Operation}
use Rattle.trace_rules.specs.declared.trace.Transaction.{Transaction}
use Rattle.trace_rules.specs.declared.wanted.Times.{Times}
use Rattle.trace_rules.specs.Trace.{Trace}
use Rattle.trace_reading.specs.Recording.{Recorded}
use Rattle.version_ranks.specs.declared.rank.Rank.{Rank}
use Rattle.list_orders.specs.declared.listing.Listing.{Listing}
use Rattle.trace_index.specs.declared.attempts.Attempt.{Attempt}
use Rattle.trace_index.specs.declared.said.Said.{Said}
use Rattle.trace_index.specs.Attempts.{attempts_of}
use Rattle.trace_index.specs.Said.{said_from}
use Rattle.trace_index.specs.Versions.{Blame, Writers, ◌>>=◌, operations_from, writers_from}
use Rattle.trace_index.specs.Numbers.{AreRanks, Numbered, numbers_from}
use Rattle.trace_index.specs.Open.{counts_at, flags_of}
use Rattle.trace_index.specs.Uses.{uses_from}
use Rattle.trace_index.specs.Listings.{listings_from, lists_reads}

-- the transactions from this place on, each by whether it counts as committed
abbrev pub transactions_from : List Bool → ℕ → List Attempt → List Transaction
transactions_from flags txn [] = []
transactions_from flags txn (attempt ∷ attempts) = record { process = attempt.process; committed = counts_at flags txn } ∷ transactions_from flags (txn + 1) attempts

-- who wrote each value, and the trace's operations
pub record Steps : Type 0 where
  pub writers : Writers
  pub operations : List Operation

abbrev pub steps_behind : Writers → List ℕ → List Said → Result Steps Blame
steps_behind writers listed ss = operations_from writers listed [] ss >>= λ operations. Ok (record { writers = writers; operations = operations })

-- where no key has lists and single values
abbrev pub steps_of : List ℕ → List Said → Result Steps Blame
steps_of listed ss = uses_from [] ss >>= λ uses. writers_from [] ss >>= λ writers. steps_behind writers listed ss

-- the operations that count
abbrev pub said_in : Recorded → List Said
said_in recorded = said_from recorded.operations 0 (attempts_of recorded.events)

-- the lists that were read
abbrev pub lists_in : Recorded → List Listing
lists_in recorded = listings_from 0 (said_in recorded)

-- the operations, and reads of open transactions' members of lists
abbrev pub sources_in : Recorded → Steps → List Operation
sources_in recorded steps = steps.operations ++ lists_reads (attempts_of recorded.events) steps.writers recorded.listed (lists_in recorded)

-- who counts as committed
abbrev pub flags_in : Recorded → Steps → List Bool
flags_in recorded steps = flags_of (attempts_of recorded.events) (sources_in recorded steps)

-- the versions that are told by number, where these count as committed
abbrev pub numbers_in : Recorded → Steps → Result Numbered Blame
numbers_in recorded steps = numbers_from steps.writers (flags_in recorded steps) [] (said_in recorded)

-- the trace, with the transactions as they were recorded, the moments that are known of them, the order of versions that is told by
-- number, and the lists that were read
pub record IsIndexOf (recorded : Recorded) (found : List Attempt) (trace : Trace) (moments : List Times) (ranks : List Rank) (lists : List Listing) : Type 0 where
  pub attempts : found ≡ attempts_of recorded.events
  pub steps : Steps
  pub numbered : Numbered
  pub made : steps_of recorded.listed (said_in recorded) ≡ Ok steps
  pub told : numbers_in recorded steps ≡ Ok numbered
  pub operations : trace.operations ≡ steps.operations
  pub transactions : trace.transactions ≡ transactions_from (flags_in recorded steps) 0 found
  pub times : moments ≡ map (λ attempt. attempt.times) found
  pub ordered : AreRanks trace.transactions numbered ranks
  pub listed : lists ≡ lists_in recorded

-- its versions by number, or what is unclear of the recording first
abbrev pub numbers_of : Recorded → Result Numbered Blame
numbers_of recorded = steps_of recorded.listed (said_in recorded) >>= numbers_in recorded
