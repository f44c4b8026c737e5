-- What sessions are told of their transactions is true, whatever comes later. docs/DEFINITIONS.md tells each definition in words.
use Rattle.std.specs.Prelude.{◌≡◌, ℕ, Bool, true, false, if◌then◌else◌, List, Option, None, Some}
use Rattle.history_book.specs.Members.{◌∈◌, AtEach}
use Rattle.history_book.specs.Isolation.{Committed}
use Rattle.history_book.specs.declared.cause.Cause.{Cause}
use Rattle.history_book.specs.declared.cause.Cause.TheVariants as cause
use Rattle.history_book.specs.declared.item.Actor.TheVariants.{Session}
use Rattle.history_book.specs.declared.item.Item.{Item}
use Rattle.history_book.specs.declared.item.Item.TheVariants as item
use Rattle.cause_rules.specs.Asks.{its_ask, start_asked}

-- a commit that is told was placed before
abbrev pub WasPlaced : List Item → Item → Type 0
WasPlaced before (item.Committed session start commit) = Committed before start commit
WasPlaced before _ = Unit {0}

-- the refusal ends a commit for good: it is not placed
abbrev pub ends_for_good : Cause → Bool
ends_for_good (cause.Expired reading until) = true
ends_for_good (cause.OldEpoch start epoch) = true
ends_for_good (cause.Conflict key by) = true
ends_for_good (cause.Hidden key water) = true
ends_for_good (cause.Replaced found) = true
ends_for_good (cause.Spent ceiling) = true
ends_for_good (cause.Invalid start) = true
ends_for_good _ = false

-- the transaction that an item tells to be over without a commit: one that ended, or whose commit is refused for good, which its
-- session asked for last
abbrev pub over_by : List Item → Item → Option ℕ
over_by before (item.End session start how) = Some start
over_by before (item.Refused (Session session) why) = if ends_for_good why then start_asked (its_ask before session) else None
over_by before _ = None

-- what is told to be over is placed nowhere in the history, neither before nor behind
abbrev pub NeverPlaced : List Item → List Item → Item → Type 0
NeverPlaced h before x = (start commit : ℕ) → over_by before x ≡ Some start → Committed h start commit → ⊥

-- each outcome that a session is told is true
pub record ToldIsTrue (h : List Item) : Type 0 where
  pub committed : AtEach WasPlaced h
  pub over : AtEach (NeverPlaced h) h

-- what is told to be over is told as committed nowhere
abbrev pub NeverToldCommitted : List Item → List Item → Item → Type 0
NeverToldCommitted h before x = (session start commit : ℕ) → over_by before x ≡ Some start → item.Committed session start commit ∈ h → ⊥

-- no transaction is told two outcomes
pub record OneOutcome (h : List Item) : Type 0 where
  pub commits : (r s start c d : ℕ) → item.Committed r start c ∈ h → item.Committed s start d ∈ h → c ≡ d
  pub over : AtEach (NeverToldCommitted h) h
