-- What is judged of what was recorded.
use Rattle.std.specs.Prelude.{ℕ, List}
use Rattle.trace_rules.specs.declared.wanted.Level.{Level}
use Rattle.trace_rules.specs.declared.wanted.Times.{Times}
use Rattle.trace_rules.specs.declared.wanted.Wanted.{Wanted}
use Rattle.trace_rules.specs.Trace.{Trace}
use Rattle.version_ranks.specs.declared.rank.Rank.{Rank}
use Rattle.version_ranks.specs.Ranks.{asked_with}
use Rattle.list_orders.specs.declared.listing.Listing.{Listing}
use Rattle.list_orders.specs.Listings.{ListsStampable}
use Rattle.list_ranks.specs.Told.{AllDone}
use Rattle.committed_reads.specs.Committed.{CommittedReads}
use Rattle.trace_reading.specs.Recording.{Recorded}
use Rattle.trace_index.specs.declared.attempts.Attempt.{Attempt}

-- the names of what was recorded, its transactions as they were recorded, the trace that they make, their moments, the order of
-- versions that is told by number, the values that were listed, and the lists that were read
pub record Subject : Type 0 where
  pub names : List (List ℕ)
  pub attempts : List Attempt
  pub trace : Trace
  pub times : List Times
  pub ranks : List Rank
  pub listed : List ℕ
  pub lists : List Listing

abbrev pub subject_of : Recorded → List Attempt → Trace → List Times → List Rank → List Listing → Subject
subject_of recorded attempts trace times ranks lists = record { names = recorded.names; attempts = attempts; trace = trace; times = times; ranks = ranks; listed = recorded.listed; lists = lists }

-- stamps, or places in one order, can be given with which the lists are read right too
abbrev pub AsAsked : Level → Wanted → Subject → Type 0
AsAsked level wanted s = ListsStampable level (asked_with wanted level s.times s.ranks s.trace) s.trace s.listed s.lists

-- reads are of what committed transactions wrote last, and members of lists of what committed ones wrote
pub record ReadsCommitted (s : Subject) : Type 0 where
  pub reads : CommittedReads s.trace
  pub members : AllDone s.trace s.listed s.lists
