-- Two commits that overlap and wrote one key.
use Rattle.std.specs.Prelude.{◌≢◌, ℕ, ◌<◌, ◌≤◌, ◌==◌, ◌&&◌, Bool, false, List, slice_get, IsSomeAnd}
use Rattle.std.specs.List.{list_any}
use Rattle.history_book.specs.Isolation.{Wrote}
use Rattle.history_book.specs.declared.item.Item.{Item}
use Rattle.history_book.specs.declared.item.Item.TheVariants.{Placed, Write}

-- the transactions t and u both wrote some key
pub record ShareKey (h : List Item) (t u : ℕ) : Type 0 where
  pub key : ℕ
  pub first : (value : List ℕ) × Wrote h t key value
  pub second : (value : List ℕ) × Wrote h u key value

-- t, committed at c, and u, committed at d, are different, share a key, and neither commit is below
-- the other's start
abbrev pub Overlap : List Item → ℕ → ℕ → ℕ → ℕ → Type 0
Overlap h t c u d = (t ≢ u) × (u ≤ c) × (t ≤ d) × ShareKey h t u

-- the placed item of t and c, with another item that overlaps it
abbrev pub OverlapsPlaced : List Item → ℕ → ℕ → Item → Type 0
OverlapsPlaced h t c (Placed start commit) = Overlap h t c start commit
OverlapsPlaced h t c _ = ⊥

abbrev pub Overlapping : List Item → Item → Item → Type 0
Overlapping h (Placed start commit) other = OverlapsPlaced h start commit other
Overlapping h _ other = ⊥

-- the items at the places i and j are placed, and overlap
abbrev pub BreaksApart : List Item → ℕ → ℕ → Type 0
BreaksApart h i j = (i < j) × IsSomeAnd (slice_get h i) (λ x. IsSomeAnd (slice_get h j) (λ y. Overlapping h x y))

-- the item is a write of t at k
abbrev pub writes : ℕ → ℕ → Item → Bool
writes t k (Write session start key value) = (start == t) && (key == k)
writes t k _ = false

-- the item is a write of t at a key that u writes in the history
abbrev pub writes_shared : List Item → ℕ → ℕ → Item → Bool
writes_shared h t u (Write session start key value) = (start == t) && list_any (λ x. writes u key x) h
writes_shared h t u _ = false
