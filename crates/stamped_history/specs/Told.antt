-- How the history of a trace is told.
use Rattle.std.specs.Prelude.{◌≡◌, ℕ, suc, ◌<◌, ◌==◌, if◌then◌else◌, List, [], ◌∷◌, Some, length, slice_get, slice_index}
use Rattle.history_book.specs.declared.item.Item.{Item}
use Rattle.trace_rules.specs.declared.wanted.Level.{Level}
use Rattle.trace_rules.specs.Trace.{Trace}
use Rattle.trace_rules.specs.Stamping.{Stamping, Point}
use Rattle.asked_orders.specs.Keeps.{stamping_of}
use Rattle.trace_report.specs.Parts.{name_at}
use Rattle.trace_items.specs.Items.{InOrder, KeysDiffer, Ranked, Telling, history_of}

-- a key's number: its place among these keys, and behind them where it is none of them
unfoldable pub number_of : List ℕ → ℕ → ℕ
number_of [] k = k
number_of (x ∷ xs) k = if x == k then 0 else suc (number_of xs k)

-- no key stands behind an equal or a greater one
abbrev pub Ascends : List ℕ → ℕ → Type 0
Ascends keys count = (i a b : ℕ) → suc i < count → slice_get keys i ≡ Some a → slice_get keys (suc i) ≡ Some b → a < b

-- with these sessions by transaction, these keys, and values by their names
abbrev pub telling_by : List ℕ → List ℕ → List (List ℕ) → Telling
telling_by seats keys names = record { session = λ t. slice_index seats t; key = number_of keys; value = name_at names }

-- the items are the history of the trace, with stamps that count its points in the order of those that the numbers make, and each
-- value by its name
pub record IsHistory (level : Level) (trace : Trace) (numbers : List ℕ) (names : List (List ℕ)) (items : List Item) : Type 0 where
  pub ranks : Stamping
  pub points : List Point
  pub tell : Telling
  pub order : InOrder (stamping_of level (length trace.transactions) numbers) trace points
  pub ranked : Ranked ranks points
  pub keys : KeysDiffer tell
  pub values : (value : ℕ) → tell.value value ≡ name_at names value
  pub told : items ≡ history_of ranks tell trace points
