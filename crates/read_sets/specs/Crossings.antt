-- What crosses a read, and what a verdict says of a history.
use Rattle.std.specs.Prelude.{◌≡◌, ◌≢◌, ℕ, ◌<◌, ◌≤◌, ◌-◌, ◌⊎◌, true, List, Option, None, Some, take, slice_get, IfSome, IsSomeAnd, MatchOption}
use Rattle.std.specs.List.{list_any}
use Rattle.history_book.specs.Isolation.{Committed, Wrote, last_write}
use Rattle.history_book.specs.Serial.{StoodUntil, StoodAtCommit, Serial}
use Rattle.history_book.specs.declared.item.Item.{Item}
use Rattle.history_book.specs.declared.item.Item.TheVariants.{Read, Placed}
use Rattle.isolation_rules.specs.ApartPairs.{writes}
use Rattle.read_sets.specs.declared.judge.SerialVerdict.{SerialVerdict}
use Rattle.read_sets.specs.declared.judge.SerialVerdict.TheVariants as verdict

-- t, committed at c, is another than s and wrote k, with c above the start s and below a commit of s
pub record CrossedBy (h : List Item) (s k t c : ℕ) : Type 0 where
  pub other : t ≢ s
  pub wrote : (value : List ℕ) × Wrote h t k value
  pub above : s < c
  pub below : (d : ℕ) × Committed h s d × (c < d)

abbrev pub CrossesKey : List Item → ℕ → ℕ → Item → Type 0
CrossesKey h s k (Placed t c) = CrossedBy h s k t c
CrossesKey h s k _ = ⊥

-- s did not write k before, and the item at the place j is a placed commit that crosses its read of k
abbrev pub CrossedAt : List Item → List Item → ℕ → ℕ → ℕ → Type 0
CrossedAt h before s k j = (last_write before s k ≡ None) × IsSomeAnd (slice_get h j) (λ y. CrossesKey h s k y)

abbrev pub CrossesRead : List Item → List Item → Item → ℕ → Type 0
CrossesRead h before (Read session s k answer) j = CrossedAt h before s k j
CrossesRead h before _ j = ⊥

-- the item at the place i is a read that the placed commit at the place j crosses, both counted from 0
abbrev pub Crosses : List Item → ℕ → ℕ → Type 0
Crosses h i j = IsSomeAnd (slice_get h i) (λ x. CrossesRead h (take i h) x j)

-- of the pairs that cross, the one of the least read and then of the least placed commit
pub record IsLeastCrossing (h : List Item) (i j : ℕ) : Type 0 where
  pub crossed : Crosses h i j
  pub first : (p q : ℕ) → p < i → Crosses h p q → ⊥
  pub second : (q : ℕ) → q < j → Crosses h i q → ⊥

-- the verdict is right; the items of a pair are counted from 1
abbrev pub IsJudged : List Item → SerialVerdict → Type 0
IsJudged h verdict.Serial = Serial h
IsJudged h (verdict.Crossed read placed) = (0 < read) × (0 < placed) × IsLeastCrossing h (read - 1) (placed - 1)

-- ---- what a walk has to know of a place
-- what s reads of k stands until each of its commits
abbrev pub StoodFor : List Item → ℕ → ℕ → Type 0
StoodFor h s k = (d : ℕ) → Committed h s d → StoodUntil h k s d

-- the item at the place i is no read, or stood
abbrev pub Stands : List Item → ℕ → Type 0
Stands h i = IfSome (slice_get h i) (λ x. StoodAtCommit h (take i h) x)

-- the least place that crosses the item at the place i
abbrev pub IsSecond : List Item → ℕ → Option ℕ → Type 0
IsSecond h i second = MatchOption second (Stands h i) (λ j. Crosses h i j × ((q : ℕ) → q < j → Crosses h i q → ⊥))

-- the same for a read of k by s, behind these items
abbrev pub IsSecondOf : List Item → List Item → ℕ → ℕ → Option ℕ → Type 0
IsSecondOf h before s k second = MatchOption second
    (last_write before s k ≡ None → StoodFor h s k)
    (λ j. CrossedAt h before s k j × ((q : ℕ) → q < j → CrossedAt h before s k q → ⊥))

-- the greatest commit of s in a part of the history
abbrev pub IsLastOf : List Item → ℕ → Option ℕ → Type 0
IsLastOf part s None = (c : ℕ) → Committed part s c → ⊥
IsLastOf part s (Some d) = Committed part s d × ((c : ℕ) → Committed part s c → c ≤ d)

-- the greater of a stamp, where there is one, and a commit
abbrev pub IsGreater : Option ℕ → ℕ → Option ℕ → Type 0
IsGreater None c new = new ≡ Some c
IsGreater (Some d) c new = ((new ≡ Some c) × (d ≤ c)) ⊎ ((new ≡ Some d) × (c ≤ d))

-- the item is a commit of another than s, between the start s and d, that wrote k
abbrev pub CrossesUpTo : List Item → ℕ → ℕ → ℕ → Item → Type 0
CrossesUpTo h s k d (Placed t c) = (t ≢ s) × (s < c) × (c < d) × (list_any (λ x. writes t k x) h ≡ true)
CrossesUpTo h s k d _ = ⊥

abbrev pub CrossesAt : List Item → ℕ → ℕ → ℕ → ℕ → Type 0
CrossesAt h s k d q = IsSomeAnd (slice_get h q) (λ y. CrossesUpTo h s k d y)
