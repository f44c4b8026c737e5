-- What the sets of commits and writes hold.
use Rattle.std.specs.Prelude.{◌≡◌, ℕ, ◌⊎◌, true, List, None}
use Rattle.std.specs.Ordering.{nat_cmp, ordering_then}
use Rattle.std.specs.declared.cmp.Ordering.{Ordering}
use Rattle.std.specs.BTreeSet.{BTreeSet, contains}
use Rattle.std.specs.List.{list_any}
use Rattle.history_book.specs.Isolation.{Committed, last_write}
use Rattle.history_book.specs.declared.item.Item.{Item}
use Rattle.isolation_rules.specs.ApartPairs.{writes}
use Rattle.read_sets.specs.declared.cleared.Cleared.{Cleared}
use Rattle.read_sets.specs.declared.index.Index.{Index}
use Rattle.read_sets.specs.Crossings.{StoodFor}

-- pairs of numbers, and threes, in the order of their parts
abbrev pub pair_cmp : ℕ × ℕ → ℕ × ℕ → Ordering
pair_cmp x y = ordering_then (nat_cmp x.0 y.0) (nat_cmp x.1 y.1)

abbrev pub triple_cmp : ℕ × ℕ × ℕ → ℕ × ℕ × ℕ → Ordering
triple_cmp x y = ordering_then (ordering_then (nat_cmp x.0 y.0) (nat_cmp x.1 y.1)) (nat_cmp x.2 y.2)

abbrev pub Pairs : Type 0
Pairs = BTreeSet (ℕ × ℕ)

abbrev pub Triples : Type 0
Triples = BTreeSet (ℕ × ℕ × ℕ)

abbrev pub HasPair : Pairs → ℕ → ℕ → Type 0
HasPair pairs a b = contains pair_cmp pairs (a, b) ≡ true

abbrev pub HasTriple : Triples → ℕ → ℕ → ℕ → Type 0
HasTriple triples a b c = contains triple_cmp triples (a, b, c) ≡ true

-- what the old set has the new one has
abbrev pub KeepsTriples : Triples → Triples → Type 0
KeepsTriples old new = (a b c : ℕ) → HasTriple old a b c → HasTriple new a b c

-- what the new set has, but for one pair, the old one had
abbrev pub MayGain : Pairs → Pairs → ℕ → ℕ → Type 0
MayGain old new s k = (a b : ℕ) → HasPair new a b → HasPair old a b ⊎ ((a ≡ s) × (b ≡ k))

-- ---- the index
-- each transaction with each of its commits
abbrev pub HasPlaced : List Item → Pairs → Type 0
HasPlaced part placed = (t c : ℕ) → Committed part t c → HasPair placed t c

-- each transaction with each key that it wrote
abbrev pub HasWritten : List Item → Pairs → Type 0
HasWritten part written = (t k : ℕ) → list_any (λ x. writes t k x) part ≡ true → HasPair written t k

-- each key that is written has each commit of its writer
abbrev pub AreEntered : Pairs → Pairs → Triples → Type 0
AreEntered written placed commits = (t k c : ℕ) → HasPair written t k → HasPair placed t c → HasTriple commits k c t

-- the commits of the whole history, and the writes of a part
pub record IsIndexBut (h part : List Item) (index : Index) : Type 0 where
  pub placed : HasPlaced h index.placed
  pub written : HasWritten part index.written
  pub entered : AreEntered index.written index.placed index.commits

abbrev pub IsIndexOf : List Item → Index → Type 0
IsIndexOf h index = IsIndexBut h h index

-- the key is written by the transaction t
pub record EntersKey (old new : Index) (t k : ℕ) : Type 0 where
  pub placed : new.placed ≡ old.placed
  pub there : HasPair new.written t k
  pub kept : (a b : ℕ) → HasPair old.written a b → HasPair new.written a b
  pub entered : AreEntered old.written old.placed old.commits → AreEntered new.written new.placed new.commits

-- ---- reads that need no second look
-- of each pair, the transaction wrote the key before, or what it reads of it stands
abbrev pub AreCleared : List Item → List Item → Cleared → Type 0
AreCleared h before cleared = (s k : ℕ) → HasPair cleared.pairs s k → last_write before s k ≡ None → StoodFor h s k
