-- What is checked of lists and hints.
use Rattle.std.specs.Prelude.{◌≡◌, ℕ, suc, ◌+◌, ◌<◌, ◌⊎◌, List, Option, None, Some, length, slice_get}
use Rattle.trace_rules.specs.declared.trace.Operation.TheVariants.{Read}
use Rattle.trace_rules.specs.declared.trace.Version.{Version}
use Rattle.trace_rules.specs.Trace.{Trace, Done}
use Rattle.version_ranks.specs.declared.rank.Rank.{Rank}
use Rattle.list_orders.specs.declared.listing.Listing.{Listing}
use Rattle.list_orders.specs.Lists.{WriteAt}
use Rattle.list_orders.specs.Listings.{values_of}
use Rattle.list_orders.specs.Told.{IsBegun}
use Rattle.list_ranks.specs.declared.homes.Append.{Append}
use Rattle.list_ranks.specs.Hints.{AreHomes, Hints, IsHome, longest_of, rank_of, version_of}

-- ---- a list
-- the append is where the hint has it, and its transaction committed
pub record IsMember (trace : Trace) (hints : Hints) (k v : ℕ) : Type 0 where
  pub append : Append
  pub home : IsHome trace hints k v append
  pub done : Done trace append.txn

abbrev pub AreMembers : Trace → Hints → ℕ → List ℕ → Type 0
AreMembers trace hints k values = (i v : ℕ) → slice_get values i ≡ Some v → IsMember trace hints k v

-- this version is the list's last member
pub record IsLast (trace : Trace) (hints : Hints) (k : ℕ) (values : List ℕ) (found : Version) : Type 0 where
  pub last : ℕ
  pub end : suc last ≡ length values
  pub at : slice_get values last ≡ Some found.value
  pub append : Append
  pub home : IsHome trace hints k found.value append
  pub from : found.from ≡ append.txn

abbrev pub IsLastOf : Trace → Hints → ℕ → List ℕ → Option Version → Type 0
IsLastOf trace hints k values None = length values ≡ 0
IsLastOf trace hints k values (Some found) = IsLast trace hints k values found

-- at its place the trace has a read of the last member
pub record IsReadOf (trace : Trace) (hints : Hints) (l : Listing) (values : List ℕ) : Type 0 where
  pub answer : Option Version
  pub stands : slice_get trace.operations l.place ≡ Some (Read l.txn l.key answer)
  pub found : IsLastOf trace hints l.key values answer

-- the key's longest list, where the hint has it
pub record IsChosen (trace : Trace) (lists : List Listing) (hints : Hints) (key : ℕ) (big : Listing) : Type 0 where
  pub place : ℕ
  pub found : longest_of hints key ≡ Some place
  pub stands : slice_get lists place ≡ Some big
  pub same : big.key ≡ key
  pub done : Done trace big.txn

-- the key's longest list begins with these values
pub record IsBegunIn (trace : Trace) (listed : List ℕ) (lists : List Listing) (hints : Hints) (key : ℕ) (values : List ℕ) : Type 0 where
  pub big : Listing
  pub chosen : IsChosen trace lists hints key big
  pub begun : IsBegun (values_of listed big) values

-- the next member is of the same writer and stands behind, or its writer's version is higher
pub record IsNext (trace : Trace) (hints : Hints) (k : ℕ) (first : Append) (x : ℕ) : Type 0 where
  pub append : Append
  pub home : IsHome trace hints k x append
  pub way : ((first.txn ≡ append.txn) × (first.place < append.place)) ⊎ (version_of hints k first.txn < version_of hints k append.txn)

pub record IsStep (trace : Trace) (hints : Hints) (k : ℕ) (values : List ℕ) (i : ℕ) : Type 0 where
  pub append : Append
  pub value : ℕ
  pub at : slice_get values i ≡ Some value
  pub home : IsHome trace hints k value append
  pub low : version_of hints k append.txn < length values
  pub next : (x : ℕ) → slice_get values (suc i) ≡ Some x → IsNext trace hints k append x

abbrev pub AreSteps : Trace → Hints → ℕ → List ℕ → Type 0
AreSteps trace hints k values = (i : ℕ) → i < length values → IsStep trace hints k values i

pub record IsFine (trace : Trace) (listed : List ℕ) (lists : List Listing) (hints : Hints) (i : ℕ) (l : Listing) : Type 0 where
  pub read : IsReadOf trace hints l (values_of listed l)
  pub members : AreMembers trace hints l.key (values_of listed l)
  pub begun : 0 < length (values_of listed l) → IsBegunIn trace listed lists hints l.key (values_of listed l)
  pub steps : longest_of hints l.key ≡ Some i → AreSteps trace hints l.key (values_of listed l)

abbrev pub AreFine : Trace → List ℕ → List Listing → Hints → Type 0
AreFine trace listed lists hints = (i : ℕ) → i < length lists → (l : Listing) → slice_get lists i ≡ Some l → Done trace l.txn → IsFine trace listed lists hints i l

-- ---- a write
-- a value that the list lacks is of its last member's writer, and written behind that
pub record IsLeft (trace : Trace) (hints : Hints) (k : ℕ) (values : List ℕ) (q w : ℕ) : Type 0 where
  pub last : ℕ
  pub value : ℕ
  pub end : suc last ≡ length values
  pub at : slice_get values last ≡ Some value
  pub append : Append
  pub home : IsHome trace hints k value append
  pub same : w ≡ append.txn
  pub behind : append.place < q

-- the value is in the list, or its writer's version is behind the list, or it was left there
abbrev pub IsRest : Trace → Hints → List ℕ → ℕ → ℕ → ℕ → ℕ → Type 0
IsRest trace hints values q w k v = ((i : ℕ) × (slice_get values i ≡ Some v)) ⊎ (version_of hints k w ≡ length values) ⊎ IsLeft trace hints k values q w

-- the writer has a rank of the key
pub record HasRank (hints : Hints) (k w : ℕ) : Type 0 where
  pub rank : Rank
  pub found : rank_of hints k w ≡ Some rank
  pub name : rank.key ≡ hints.above + k
  pub writer : rank.txn ≡ w

pub record IsPlaced (trace : Trace) (listed : List ℕ) (lists : List Listing) (hints : Hints) (q w k v place : ℕ) : Type 0 where
  pub big : Listing
  pub stands : slice_get lists place ≡ Some big
  pub rank : HasRank hints k w
  pub rest : IsRest trace hints (values_of listed big) q w k v

abbrev pub ArePlaced : Trace → List ℕ → List Listing → Hints → Type 0
ArePlaced trace listed lists hints = (q : ℕ) → q < length trace.operations → (w k v place : ℕ) → WriteAt trace q w k v → Done trace w → longest_of hints k ≡ Some place → IsPlaced trace listed lists hints q w k v place

-- ---- a rank
pub record IsTrueRank (trace : Trace) (lists : List Listing) (hints : Hints) (rank : Rank) : Type 0 where
  pub key : ℕ
  pub name : rank.key ≡ hints.above + key
  pub place : ℕ
  pub value : ℕ
  pub wrote : WriteAt trace place rank.txn key value
  pub done : Done trace rank.txn
  pub version : version_of hints key rank.txn ≡ rank.version
  pub big : Listing
  pub chosen : IsChosen trace lists hints key big

abbrev pub AreTrue : Trace → List Listing → Hints → Type 0
AreTrue trace lists hints = (p : ℕ) → p < length hints.ranks → (rank : Rank) → slice_get hints.ranks p ≡ Some rank → IsTrueRank trace lists hints rank

-- other ranks are of lower keys
abbrev pub AreLower : List Rank → ℕ → Type 0
AreLower versions above = (p : ℕ) → p < length versions → (rank : Rank) → slice_get versions p ≡ Some rank → rank.key < above

-- ---- all of it
pub record AreCertified (trace : Trace) (listed : List ℕ) (lists : List Listing) (versions : List Rank) (hints : Hints) : Type 0 where
  pub homes : AreHomes trace hints
  pub lower : AreLower versions hints.above
  pub fine : AreFine trace listed lists hints
  pub placed : ArePlaced trace listed lists hints
  pub true_ranks : AreTrue trace lists hints
