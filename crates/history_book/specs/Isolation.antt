-- Snapshot isolation, as a relation over a finished history. It reads asks for a start, begins, writes,
-- reads and placed commits, and of the steps on the stores the listing of a transaction's keys alone.
-- docs/DEFINITIONS.md tells each definition in words.
use Rattle.std.specs.Prelude.{◌≡◌, ◌≢◌, ℕ, ◌<◌, ◌≤◌, ◌==◌, Bool, false, ◌&&◌, ◌||◌, not, if◌then◌else◌, List, [], ◌∷◌, ◌⊎◌, Option, None, Some}
use Rattle.std.specs.Option.{option_or}
use Rattle.history_book.specs.Members.{◌∈◌, AtEach}
use Rattle.history_book.specs.declared.item.Found.{Found}
use Rattle.history_book.specs.declared.item.StoreStep.TheVariants.{Keys}
use Rattle.history_book.specs.declared.item.Item.{Item}
use Rattle.history_book.specs.declared.item.Item.TheVariants.{AskBegin, Begin, Write, Read, Placed, Step}
use Rattle.history_book.specs.declared.item.Actor.{Actor}

-- the transaction t is committed at c; it does not matter where in the history that stands
abbrev pub Committed : List Item → ℕ → ℕ → Type 0
Committed h t c = Placed t c ∈ h

-- what the item writes for the transaction t at the key k
abbrev pub written_by : ℕ → ℕ → Item → Option (List ℕ)
written_by t k (Write session start key value) = if (start == t) && (key == k) then Some value else None
written_by t k _ = None

-- the value of the last write of t at k
unfoldable pub last_write : List Item → ℕ → ℕ → Option (List ℕ)
last_write [] t k = None
last_write (x ∷ xs) t k = option_or (last_write xs t k) (written_by t k x)

-- t wrote k, with this value last
abbrev pub Wrote : List Item → ℕ → ℕ → List ℕ → Type 0
Wrote h t k value = last_write h t k ≡ Some value

-- t is committed at c, below the start s, and wrote k
pub record Candidate (h : List Item) (s k t c : ℕ) : Type 0 where
  pub committed : Committed h t c
  pub below : c < s
  pub wrote : (value : List ℕ) × Wrote h t k value

-- of the candidates, the version that was committed last
pub record Newest (h : List Item) (s k : ℕ) (found : Found) : Type 0 where
  pub commit : ℕ
  pub candidate : Candidate h s k found.from commit
  pub value : Wrote h found.from k found.value
  pub greatest : (t c : ℕ) → Candidate h s k t c → c ≤ commit

-- what a reader with the start s sees at k: the newest candidate, or nothing where there is none
abbrev pub Visible : List Item → ℕ → ℕ → Option Found → Type 0
Visible h s k None = (t c : ℕ) → Candidate h s k t c → ⊥
Visible h s k (Some found) = Newest h s k found

-- before holds a listing of the keys of the transaction t, which only a sweep of t makes
abbrev pub WasListed : List Item → ℕ → Type 0
WasListed before t = (actor : Actor) × (count : ℕ) × (Step actor (Keys t count) ∈ before)

-- A transaction reads its own last write before the read, and else what is visible in the whole
-- history. Where a sweep listed its keys before the read, what is visible is right too: from that
-- listing on the sweep takes the writes of the transaction away, one by one, and its own may be gone.
abbrev pub RightAnswer : List Item → List Item → ℕ → ℕ → Option Found → Option (List ℕ) → Type 0
RightAnswer h before s k answer None = Visible h s k answer
RightAnswer h before s k answer (Some own) = (answer ≡ Some (record { from = s; value = own })) ⊎ (WasListed before s × Visible h s k answer)

abbrev pub RightRead : List Item → List Item → Item → Type 0
RightRead h before (Read session s k answer) = RightAnswer h before s k answer (last_write before s k)
RightRead h before _ = Unit {0}

-- of two committed transactions that wrote one key, one committed below the other's start
pub record Apart (h : List Item) : Type 0 where
  pub apart : (t c u d k : ℕ) (v w : List ℕ) → Committed h t c → Committed h u d → t ≢ u → Wrote h t k v → Wrote h u k w → (c < u) ⊎ (d < t)

-- no begin before has this start; no commit before has this transaction or this stamp
abbrev pub NewStamps : List Item → Item → Type 0
NewStamps before (Begin session start) = (other : ℕ) → Begin other start ∈ before → ⊥
NewStamps before (Placed start commit) = (t c : ℕ) → Committed before t c → (t ≢ start) × (c ≢ commit)
NewStamps before _ = Unit {0}

-- starts and commits are all different, and each transaction's start is below its commit
pub record Stamped (h : List Item) : Type 0 where
  pub distinct : AtEach NewStamps h
  pub no_start_commits : (session t u : ℕ) → Begin session t ∈ h → Committed h u t → ⊥
  pub start_below_commit : (t c : ℕ) → Committed h t c → t < c

-- the item is the session's ask for a start
abbrev pub asks : ℕ → Item → Bool
asks s (AskBegin session node) = session == s
asks s _ = false

unfoldable pub has_ask : ℕ → List Item → Bool
has_ask s [] = false
has_ask s (x ∷ xs) = asks s x || has_ask s xs

-- the part before the session's last ask for a start, or all where there is none
unfoldable pub before_ask : ℕ → List Item → List Item
before_ask s [] = []
before_ask s (x ∷ xs) = if has_ask s xs || not (asks s x) then x ∷ before_ask s xs else []

-- a begin's start is above every commit that was placed before it was asked for
abbrev pub StartsAbove : List Item → Item → Type 0
StartsAbove before (Begin session start) = (t c : ℕ) → Committed (before_ask session before) t c → c < start
StartsAbove before _ = Unit {0}

-- each begin is fresh
abbrev pub Fresh : List Item → Type 0
Fresh h = AtEach StartsAbove h

-- the history is snapshot isolated
pub record Isolated (h : List Item) : Type 0 where
  pub apart : Apart h
  pub stamped : Stamped h
  pub fresh : Fresh h
  pub reads : AtEach (RightRead h) h
