-- What the maps of an indexed walk hold.
use Rattle.std.specs.Prelude.{◌≡◌, ◌&&◌, ℕ, Bool, List, Some, IsSome, nat_eq}
use Rattle.std.specs.Ordering.{nat_cmp, ordering_then}
use Rattle.std.specs.declared.cmp.Ordering.{Ordering}
use Rattle.std.specs.BTreeMap.{BTreeMap, get}
use Rattle.std.specs.declared.hash.FoldHasher.{FoldHasher}
use Rattle.std.specs.declared.hash.BuildHasherDefault.{BuildHasherDefault}
use Rattle.std.specs.HashMap as hash
use Rattle.std.specs.HashMap.{HashMap}
use Rattle.std.specs.HashSet.{HashSet, contains}
use Rattle.std.specs.List.{list_any}
use Rattle.history_book.specs.Isolation.{Committed, Wrote}
use Rattle.history_book.specs.declared.item.Item.{Item}
use Rattle.isolation_rules.specs.declared.version.Version.{Version}
use Rattle.isolation_rules.specs.Best.{IsOwn, IsWritten, lists}

-- pairs of numbers in order of the first, then of the second
abbrev pub pair_cmp : ℕ × ℕ → ℕ × ℕ → Ordering
pair_cmp x y = ordering_then (nat_cmp x.0 y.0) (nat_cmp x.1 y.1)

-- the map has, by key and commit, the last write of each committed transaction at each key in a part of
-- the history, and no others
pub record HasVersions (h part : List Item) (versions : BTreeMap (ℕ × ℕ) Version) : Type 0 where
  pub held : (k c : ℕ) (version : Version) → get pair_cmp versions (k, c) ≡ Some version → Committed h version.found.from c × IsWritten part k version
  pub whole : (t c k : ℕ) (value : List ℕ) → Committed h t c → Wrote part t k value → IsSome (get pair_cmp versions (k, c))

abbrev pub pair_eq : ℕ × ℕ → ℕ × ℕ → Bool
pair_eq x y = nat_eq x.0 y.0 && nat_eq x.1 y.1

-- versions, by their transactions and keys
abbrev pub LastWrites : Type 0
LastWrites = HashMap (ℕ × ℕ) Version (BuildHasherDefault FoldHasher)

-- the map has, by transaction and key, each transaction's last write at each key
abbrev pub HasLastWrites : List Item → LastWrites → Type 0
HasLastWrites part versions = (t k : ℕ) → IsOwn part t k (hash.get pair_eq versions (t, k))

-- transactions
abbrev pub Txns : Type 0
Txns = HashSet ℕ (BuildHasherDefault FoldHasher)

-- the set has the transactions whose keys were listed
abbrev pub HasListed : List Item → Txns → Type 0
HasListed part txns = (t : ℕ) → contains nat_eq txns t ≡ list_any (λ x. lists t x) part
