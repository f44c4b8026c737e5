-- A trace with the lists that were read in it, and what it means that stamps can be given which make it isolated.
use Rattle.std.specs.Prelude.{◌≡◌, ℕ, ◌&&◌, nat_le, if◌then◌else◌, List, [], Some, length, slice_get, slice_range}
use Rattle.trace_rules.specs.declared.wanted.Level.{Level}
use Rattle.trace_rules.specs.Trace.{Trace, Done}
use Rattle.trace_rules.specs.Stamping.{Asked, IsolatedBy, Keeps, Stamping}
use Rattle.list_orders.specs.declared.listing.Listing.{Listing}
use Rattle.list_orders.specs.Lists.{SeesValues}

-- the values of these that stand from a place to before another, where they are there
abbrev pub listed_between : List ℕ → ℕ → ℕ → List ℕ
listed_between listed first end = if nat_le first end && nat_le end (length listed) then slice_range listed first end else []

abbrev pub values_of : List ℕ → Listing → List ℕ
values_of listed l = listed_between listed l.first l.end

-- each list of a committed transaction was read right
pub record SeesAll (st : Stamping) (trace : Trace) (listed : List ℕ) (lists : List Listing) : Type 0 where
  pub each : (i : ℕ) (l : Listing) → slice_get lists i ≡ Some l → Done trace l.txn → SeesValues st trace l.place l.txn l.key (values_of listed l)

-- some stamps make the trace isolated, keep what is asked for, and have each list read right
pub record ListsStampable (level : Level) (asked : Asked) (trace : Trace) (listed : List ℕ) (lists : List Listing) : Type 0 where
  pub stamps : Stamping
  pub isolated : IsolatedBy level stamps trace
  pub keeps : Keeps asked stamps
  pub sees : SeesAll stamps trace listed lists
