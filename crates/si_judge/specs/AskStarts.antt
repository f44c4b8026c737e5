-- Starts, held at the places where they were asked for.
use Rattle.std.specs.Prelude.{◌≡◌, ℕ, ◌<◌, ◌≤◌, true, false, List, Option, None, Some, length, slice_get, slice_index_or}
use Rattle.history_book.specs.Isolation.{has_ask, before_ask}
use Rattle.history_book.specs.declared.item.Item.{Item}
use Rattle.history_book.specs.declared.item.Item.TheVariants.{Begin, Placed}
use Rattle.isolation_rules.specs.FreshPairs.{ask_place}

-- the bound is there, and not above the stamp
abbrev pub IsNotAbove : Option ℕ → ℕ → Type 0
IsNotAbove None stamp = ⊥
IsNotAbove (Some bound) stamp = bound ≤ stamp

-- the item is no commit at or above the bound
abbrev pub IsBelow : Item → Option ℕ → Type 0
IsBelow (Placed start commit) bound = IsNotAbove bound commit → ⊥
IsBelow _ bound = Unit {0}

-- the session's last ask stands at the place, or it did not ask
abbrev pub IsLastAsk : ℕ → List Item → Option ℕ → Type 0
IsLastAsk session before None = has_ask session before ≡ false
IsLastAsk session before (Some place) = (has_ask session before ≡ true) × (length (before_ask session before) ≡ place)

-- for each session the place of its last ask
pub record AreLastAsks (before : List Item) (asks : List (Option ℕ)) : Type 0 where
  pub each : (session : ℕ) → session < 16 → IsLastAsk session before (slice_index_or asks session None)

-- where the item is the begin at the place j, the starts have at the place of its ask one that is not above its own
abbrev pub HoldsStart : List Item → List (Option ℕ) → ℕ → Item → Type 0
HoldsStart h starts j (Begin session start) = IsNotAbove (slice_index_or starts (ask_place h session j) None) start
HoldsStart h starts j _ = Unit {0}

-- the same of each begin below the place n
pub record HasStarts (h : List Item) (n : ℕ) (starts : List (Option ℕ)) : Type 0 where
  pub at : (j : ℕ) (x : Item) → j < n → slice_get h j ≡ Some x → HoldsStart h starts j x
