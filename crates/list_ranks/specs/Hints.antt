-- Where to look in a trace with lists, and what it is that a hint is right.
use Rattle.std.specs.Prelude.{◌≡◌, ℕ, ◌&&◌, nat_eq, Bool, List, Option, None, Some, get_or, slice_get, unwrap_or}
use Rattle.std.specs.Map.{lookup}
use Rattle.trace_rules.specs.declared.trace.Operation.{Operation}
use Rattle.trace_rules.specs.declared.trace.Operation.TheVariants.{Read, Write}
use Rattle.trace_rules.specs.Trace.{Trace}
use Rattle.version_ranks.specs.declared.rank.Rank.{Rank}
use Rattle.list_orders.specs.Lists.{WriteAt}
use Rattle.list_ranks.specs.declared.homes.Append.{Append}

-- the place of the append by key and value, of the longest list by key, and of a rank by key and writer; the ranks, and what is added
-- to the number of a key in them
pub record Hints : Type 0 where
  pub homes : List ((ℕ × ℕ) × ℕ)
  pub longest : List (ℕ × ℕ)
  pub places : List ((ℕ × ℕ) × ℕ)
  pub ranks : List Rank
  pub above : ℕ

abbrev pub pair_eq : ℕ × ℕ → ℕ × ℕ → Bool
pair_eq x y = nat_eq x.0 y.0 && nat_eq x.1 y.1

abbrev pub home_of : Hints → ℕ → ℕ → Option ℕ
home_of hints key value = lookup (pair_eq (key, value)) hints.homes

abbrev pub longest_of : Hints → ℕ → Option ℕ
longest_of hints key = lookup (nat_eq key) hints.longest

abbrev pub rank_among : List Rank → Option ℕ → Option Rank
rank_among ranks None = None
rank_among ranks (Some place) = slice_get ranks place

abbrev pub rank_of : Hints → ℕ → ℕ → Option Rank
rank_of hints key txn = rank_among hints.ranks (lookup (pair_eq (key, txn)) hints.places)

-- the writer's version of the key, where it has a rank
abbrev pub version_in : Option Rank → ℕ
version_in None = 0
version_in (Some rank) = rank.version

abbrev pub version_of : Hints → ℕ → ℕ → ℕ
version_of hints key txn = version_in (rank_of hints key txn)

abbrev pub writer_in : Option Operation → ℕ
writer_in None = 0
writer_in (Some (Read txn key answer)) = 0
writer_in (Some (Write txn key value)) = txn

-- the place and the writer of the append of the list's member, as the hints have them
abbrev pub place_at : Hints → ℕ → List ℕ → ℕ → ℕ
place_at hints key values i = unwrap_or (home_of hints key (get_or values i 0)) 0

abbrev pub writer_at : Trace → Hints → ℕ → List ℕ → ℕ → ℕ
writer_at trace hints key values i = writer_in (slice_get trace.operations (place_at hints key values i))

-- the append of the value, where the hint has it
pub record IsHome (trace : Trace) (hints : Hints) (key value : ℕ) (append : Append) : Type 0 where
  pub wrote : WriteAt trace append.place append.txn key value
  pub home : home_of hints key value ≡ Some append.place

-- each write is where the hint for its value has it: so no value is written twice at a key
abbrev pub AreHomes : Trace → Hints → Type 0
AreHomes trace hints = (q w k v : ℕ) → WriteAt trace q w k v → home_of hints k v ≡ Some q
