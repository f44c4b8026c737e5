-- What a walk over placed items knows of the version that a reader sees.
use Rattle.std.specs.Prelude.{◌≡◌, ◌==◌, ℕ, ◌<◌, ◌≤◌, Bool, false, List, Option, None, Some, ◌⊎◌, IsSomeAnd, MatchOption, take, length}
use Rattle.history_book.specs.Isolation.{RightAnswer, last_write, Committed, Wrote, Visible, Newest}
use Rattle.history_book.specs.declared.item.Found.{Found}
use Rattle.history_book.specs.declared.item.Item.{Item}
use Rattle.history_book.specs.declared.item.Item.TheVariants.{Step}
use Rattle.history_book.specs.declared.item.StoreStep.{StoreStep}
use Rattle.history_book.specs.declared.item.StoreStep.TheVariants.{Keys}
use Rattle.isolation_rules.specs.ReadPairs.{IsLastWrite, IsRightAt}
use Rattle.isolation_rules.specs.declared.version.Version.{Version}
use Rattle.isolation_rules.specs.declared.version.Best.{Best}

-- the version was written at its place, as the last write of its transaction at k
abbrev pub IsWritten : List Item → ℕ → Version → Type 0
IsWritten h k version = IsLastWrite h version.found.from k version.found.value version.place

-- the last write of t at k, where there is one
abbrev pub IsOwn : List Item → ℕ → ℕ → Option Version → Type 0
IsOwn part t k None = last_write part t k ≡ None
IsOwn part t k (Some version) = (version.found.from ≡ t) × IsWritten part k version

-- of the commits in a part of the history, the newest below s that wrote k
pub record IsBest (h : List Item) (s k : ℕ) (part : List Item) (best : Best) : Type 0 where
  pub committed : Committed part best.version.found.from best.commit
  pub below : best.commit < s
  pub written : IsWritten h k best.version
  pub greatest : (t c : ℕ) (value : List ℕ) → Committed part t c → c < s → Wrote h t k value → c ≤ best.commit

abbrev pub BestOf : List Item → ℕ → ℕ → List Item → Option Best → Type 0
BestOf h s k part None = (t c : ℕ) (value : List ℕ) → Committed part t c → c < s → Wrote h t k value → ⊥
BestOf h s k part (Some best) = IsBest h s k part best

-- the commit c is below the start s, and above the best so far
abbrev pub IsLater : ℕ → ℕ → Option Best → Type 0
IsLater c s None = c < s
IsLater c s (Some best) = (c < s) × (best.commit < c)

-- where t wrote k the best is now its version, with the commit c, and else it stays
abbrev pub IsReplaced : List Item → ℕ → ℕ → ℕ → Option Best → Option Best → Type 0
IsReplaced h t c k old new = ((last_write h t k ≡ None) × (new ≡ old)) ⊎ IsSomeAnd new (λ best. (best.commit ≡ c) × (best.version.found.from ≡ t) × IsWritten h k best.version)

-- what is visible at k for the start s, with its place
abbrev pub Sees : List Item → ℕ → ℕ → Option Version → Type 0
Sees h s k None = Visible h s k None
Sees h s k (Some version) = Newest h s k version.found × IsWritten h k version

-- the item lists the keys of the transaction t
abbrev pub lists_keys : ℕ → StoreStep → Bool
lists_keys t (Keys txn count) = t == txn
lists_keys t _ = false

abbrev pub lists : ℕ → Item → Bool
lists t (Step actor what) = lists_keys t what
lists t _ = false

-- where it was written, and the place of the read where nothing is visible
abbrev pub place_seen : Option Version → ℕ → ℕ
place_seen None i = i
place_seen (Some version) i = version.place

-- where the answer to the read at the place i is wrong, the place of the right one; own is the value of
-- the transaction's own last write before
abbrev pub IsWrong : List Item → ℕ → ℕ → ℕ → Option Found → Option (List ℕ) → Option ℕ → Type 0
IsWrong h i s k answer own second = MatchOption second
    (RightAnswer h (take i h) s k answer own)
    (λ j. (RightAnswer h (take i h) s k answer own → ⊥) × IsRightAt h i s k own j × (j < length h))
