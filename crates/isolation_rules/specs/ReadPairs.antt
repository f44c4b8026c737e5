-- A read whose answer is not the right one, and the write that gives the right one.
use Rattle.std.specs.Prelude.{◌≡◌, ℕ, ◌<◌, List, Option, None, Some, take, slice_get, IsSomeAnd, option_and_then}
use Rattle.history_book.specs.Isolation.{written_by, last_write, Visible, RightRead}
use Rattle.history_book.specs.declared.item.Found.{Found}
use Rattle.history_book.specs.declared.item.Item.{Item}
use Rattle.history_book.specs.declared.item.Item.TheVariants.{Read}

-- what the item at the place writes for the transaction t at the key k
abbrev pub written_at : List Item → ℕ → ℕ → ℕ → Option (List ℕ)
written_at h t k place = option_and_then (λ x. written_by t k x) (slice_get h place)

-- the last write of t at k stands at the place, and has this value
pub record IsLastWrite (h : List Item) (t k : ℕ) (value : List ℕ) (place : ℕ) : Type 0 where
  pub wrote : written_at h t k place ≡ Some value
  pub last : (later : ℕ) → place < later → written_at h t k later ≡ None

-- the place of the write that the answer to the read at i comes from, and i where it is none
abbrev pub IsGivenAt : List Item → ℕ → ℕ → Option Found → ℕ → Type 0
IsGivenAt h i k None j = j ≡ i
IsGivenAt h i k (Some found) j = IsLastWrite h found.from k found.value j

-- where what is visible at k for the start s was written
pub record IsVisibleAt (h : List Item) (i s k j : ℕ) : Type 0 where
  pub answer : Option Found
  pub visible : Visible h s k answer
  pub given : IsGivenAt h i k answer j

-- where the right answer was written: the transaction's own last write before the read, and else what
-- is visible; where the keys were listed too, the own write is named
abbrev pub IsRightAt : List Item → ℕ → ℕ → ℕ → Option (List ℕ) → ℕ → Type 0
IsRightAt h i s k (Some own) j = IsLastWrite (take i h) s k own j
IsRightAt h i s k None j = IsVisibleAt h i s k j

abbrev pub AnswersAt : List Item → ℕ → Item → ℕ → Type 0
AnswersAt h i (Read session start key answer) j = IsRightAt h i start key (last_write (take i h) start key) j
AnswersAt h i _ j = ⊥

-- the item at the place i is a read with a wrong answer, and the right one was written at the place j
abbrev pub BreaksRead : List Item → ℕ → ℕ → Type 0
BreaksRead h i j = IsSomeAnd (slice_get h i) (λ x. (RightRead h (take i h) x → ⊥) × AnswersAt h i x j)
