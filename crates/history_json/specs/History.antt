-- The items that the bytes of a history are, in either format, and the first line that is no item.
use Rattle.std.specs.Prelude.{◌≡◌, ◌≢◌, ℕ, ◌+◌, ◌-◌, ◌<◌, ◌≤◌, ◌==◌, if◌then◌else◌, List, [], ◌∷◌, ◌++◌, length, filter, slice_get, IfSome, IsSomeAnd}
use Rattle.std.specs.List.{All}
use Rattle.stamp_base.specs.declared.limits.TheConstants.{BYTE_LIMIT}
use Rattle.history_book.specs.declared.item.Item.{Item}
use Rattle.history_text.specs.Fits.{FitsItem}
use Rattle.history_text.specs.Text.{body_of}
use Rattle.history_reading.specs.declared.history.HistoryFault.{HistoryFault}
use Rattle.history_reading.specs.declared.history.HistoryFault.TheVariants.{At, NoMemory}
use Rattle.history_reading.specs.History.{lines_of, says_something}
use Rattle.history_json.specs.declared.history.Format.{Format}
use Rattle.history_json.specs.declared.history.Format.TheVariants.{Text, Json}
use Rattle.history_json.specs.Json.{IsJsonLineOf}

-- the format of a history whose first line that says something is this one: JSON where it begins with a brace
abbrev pub line_format : List ℕ → Format
line_format [] = Text
line_format (b ∷ bs) = if b == 123 then Json else Text

abbrev pub first_format : List (List ℕ) → Format
first_format [] = Text
first_format (line ∷ lines) = line_format line

-- the format of a history's bytes: that of the first line that says something
abbrev pub format_of : List ℕ → Format
format_of bytes = first_format (filter says_something (lines_of bytes))

-- the line is the item's in this format
abbrev pub IsLineOf : Format → List ℕ → Item → Type 0
IsLineOf Text line item = line ≡ body_of item
IsLineOf Json line item = IsJsonLineOf line item

-- the lines are those of the items in this format, one each and in order
abbrev pub AreLinesOf : Format → List (List ℕ) → List Item → Type 0
AreLinesOf format [] [] = Unit {0}
AreLinesOf format [] (item ∷ items) = ⊥
AreLinesOf format (line ∷ lines) [] = ⊥
AreLinesOf format (line ∷ lines) (item ∷ items) = IsLineOf format line item × AreLinesOf format lines items

-- the bytes are few enough, and their lines that say something are those of the items, all in one format
pub record AreItems (bytes : List ℕ) (items : List Item) : Type 0 where
  pub short : length bytes ≤ BYTE_LIMIT
  pub fit : All FitsItem items
  pub lines : AreLinesOf (format_of bytes) (filter says_something (lines_of bytes)) items

-- the line says something, and is the line of no item in this format
pub record IsNoItem (format : Format) (line : List ℕ) : Type 0 where
  pub said : line ≢ []
  pub other : (item : Item) → FitsItem item → IsLineOf format line item → ⊥

-- the line of this number, counted from 1, is the first that is no item; line 0 stands for too many bytes
pub record IsFirstBad (bytes : List ℕ) (line : ℕ) : Type 0 where
  pub long : line ≡ 0 → BYTE_LIMIT < length bytes
  pub short : 0 < line → length bytes ≤ BYTE_LIMIT
  pub bad : 0 < line → IsSomeAnd (slice_get (lines_of bytes) (line - 1)) (IsNoItem (format_of bytes))
  pub before : (i : ℕ) → i + 1 < line → IfSome (slice_get (lines_of bytes) i) (λ earlier. IsNoItem (format_of bytes) earlier → ⊥)

-- why a history was not read: the first bad line, unless memory was refused
abbrev pub IsFaultOf : List ℕ → HistoryFault → Type 0
IsFaultOf bytes (At line) = IsFirstBad bytes line
IsFaultOf bytes NoMemory = Unit {0}

-- why the line of this number was not read: it is no item, unless memory was refused
abbrev pub IsFaultAt : Format → ℕ → List ℕ → HistoryFault → Type 0
IsFaultAt format number text (At line) = (line ≡ number) × IsNoItem format text
IsFaultAt format number text NoMemory = Unit {0}

-- the items that a line that was read adds: one where it says something
pub record AddsLine (format : Format) (line : List ℕ) (old new : List Item) : Type 0 where
  pub added : List Item
  pub is : new ≡ old ++ added
  pub fit : All FitsItem added
  pub lines : AreLinesOf format (filter says_something (line ∷ [])) added
