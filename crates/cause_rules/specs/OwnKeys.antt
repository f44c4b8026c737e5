-- Which keys count for a transaction at its commit: those that it wrote, and with strict reads those too that it has read, as the
-- history shows it.
use Rattle.std.specs.Prelude.{◌≡◌, ℕ, ◌==◌, Bool, true, false, if◌then◌else◌, List, ◌⊎◌, Option, None, Some, Contains}
use Rattle.stamp_base.specs.SetupNumbers.{SetupNumbers}
use Rattle.history_book.specs.Members.{◌∈◌}
use Rattle.history_book.specs.declared.item.Actor.TheVariants.{Session}
use Rattle.history_book.specs.declared.item.StoreStep.TheVariants.{Fetch}
use Rattle.history_book.specs.declared.item.Item.{Item}
use Rattle.history_book.specs.declared.item.Item.TheVariants.{Begin, Step}
use Rattle.cause_rules.specs.Since.{last_told, since}
use Rattle.cause_rules.specs.Written.{written_keys}

abbrev pub begin_by : ℕ → Item → Option ℕ
begin_by s (Begin session start) = if session == s then Some start else None
begin_by s _ = None

abbrev pub begins_for : ℕ → Item → Bool
begins_for s (Begin session start) = session == s
begins_for s _ = false

-- the start that the session's last begin gave
abbrev pub last_begun : List Item → ℕ → Option ℕ
last_begun h s = last_told (begin_by s) h

abbrev pub since_begin : List Item → ℕ → List Item
since_begin h s = since (begins_for s) h

-- the session fetched the key since its last begin
abbrev pub FetchedSince : List Item → ℕ → ℕ → Type 0
FetchedSince h s key = (cells : ℕ) × (Step (Session s) (Fetch key cells) ∈ since_begin h s)

-- the transaction is that of the session's last begin, since which the session fetched the key
pub record HasRead (h : List Item) (s start key : ℕ) : Type 0 where
  pub begun : last_begun h s ≡ Some start
  pub fetched : FetchedSince h s key

-- the transaction of the session wrote the key, or with strict reads has read it
abbrev pub WroteOrRead : SetupNumbers → List Item → ℕ → ℕ → ℕ → Type 0
WroteOrRead setup h s start key = Contains (written_keys h start) key ⊎ ((setup.strict ≡ true) × HasRead h s start key)
