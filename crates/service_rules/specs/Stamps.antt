-- Real time: a stamp that a session gets is above all that any session was told before it asked. docs/DEFINITIONS.md tells each
-- definition in words.
use Rattle.std.specs.Prelude.{◌≡◌, ℕ, ◌<◌, true, List, ◌∷◌, ◌++◌, Option, None, Some}
use Rattle.history_book.specs.Members.{◌∈◌, AtEach}
use Rattle.history_book.specs.declared.item.Item.{Item}
use Rattle.history_book.specs.declared.item.Item.TheVariants as item
use Rattle.history_book.specs.declared.item.StoreStep.TheVariants.{Handed}
use Rattle.cause_rules.specs.Asks.{asks_for}

-- the stamp that an item tells a session: a start, a commit, or a commit that the session is to place
abbrev pub stamp_told : Item → Option ℕ
stamp_told (item.Begin session start) = Some start
stamp_told (item.Committed session start commit) = Some commit
stamp_told (item.Step actor (Handed start commit)) = Some commit
stamp_told _ = None

-- some session was told the stamp
abbrev pub WasTold : List Item → ℕ → Type 0
WasTold h stamp = (x : Item) × (x ∈ h) × (stamp_told x ≡ Some stamp)

-- the session asked for a start or a commit, and before that some session was told the stamp
pub record ToldBeforeAsk (h : List Item) (session stamp : ℕ) : Type 0 where
  pub front : List Item
  pub ask : Item
  pub behind : List Item
  pub is : h ≡ front ++ ask ∷ behind
  pub asks : asks_for session ask ≡ true
  pub told : WasTold front stamp

-- it is above all that was told before the session asked
abbrev pub IsAbove : List Item → ℕ → ℕ → Type 0
IsAbove before session drawn = (stamp : ℕ) → ToldBeforeAsk before session stamp → stamp < drawn

-- the stamp that is drawn for a start or for a commit; the start of a begin; and the commit that is told
abbrev pub StampAbove : List Item → Item → Type 0
StampAbove before (item.Draw session node term start None) = IsAbove before session start
StampAbove before (item.Draw session node term start (Some commit)) = IsAbove before session commit
StampAbove before (item.Begin session start) = IsAbove before session start
StampAbove before _ = Unit {0}

-- each stamp is fresh
abbrev pub FreshStamps : List Item → Type 0
FreshStamps h = AtEach StampAbove h

-- ---- what follows for one session
-- the snapshots of a session rise
abbrev pub StartsAboveOwn : List Item → Item → Type 0
StartsAboveOwn before (item.Begin session start) = (earlier : ℕ) → item.Begin session earlier ∈ before → earlier < start
StartsAboveOwn before _ = Unit {0}

abbrev pub SnapshotsRise : List Item → Type 0
SnapshotsRise h = AtEach StartsAboveOwn h

-- the commits that a session was told are in its later snapshots
abbrev pub CommitsBelowOwn : List Item → Item → Type 0
CommitsBelowOwn before (item.Begin session start) = (earlier commit : ℕ) → item.Committed session earlier commit ∈ before → commit < start
CommitsBelowOwn before _ = Unit {0}

abbrev pub OwnCommitsAreRead : List Item → Type 0
OwnCommitsAreRead h = AtEach CommitsBelowOwn h
