-- The items that a picture shows, each with its number in the history, counted from 1. The others are left out.
use Rattle.std.specs.Prelude.{ℕ, zero, suc, ◌+◌, ◌==◌, Bool, true, false, ◌&&◌, ◌||◌, not, if◌then◌else◌, leb, List, [], ◌∷◌, ◌++◌, Option, None, Some, length, slice_get}
use Rattle.history_book.specs.declared.item.Item.{Item}
use Rattle.history_book.specs.declared.item.Item.TheVariants as item
use Rattle.history_signs.specs.declared.bar.Bar.{Bar}
use Rattle.history_signs.specs.declared.chosen.Chosen.{Chosen}
use Rattle.history_signs.specs.Bars.{bar_of}

-- what tells how a thing was done and not what became of it: steps on stores, notes, asks and that they were accepted
abbrev pub is_minor : Item → Bool
is_minor (item.Step actor what) = true
is_minor (item.Note actor note) = true
is_minor (item.AskBegin session node) = true
is_minor (item.AskCommit session node start) = true
is_minor (item.Accept session node term reading) = true
is_minor _ = false

-- a brief picture leaves that out
abbrev pub is_kept : Bool → Item → Bool
is_kept brief x = not (brief && is_minor x)

-- the number is one of these
unfoldable pub is_among : ℕ → List ℕ → Bool
is_among number [] = false
is_among number (other ∷ numbers) = (other == number) || is_among number numbers

-- the item is one of a transaction with such a start: its begin, writes and reads, its commit and its end
abbrev pub is_of : List ℕ → Item → Bool
is_of starts (item.Begin session start) = is_among start starts
is_of starts (item.Write session start key value) = is_among start starts
is_of starts (item.Read session start key answer) = is_among start starts
is_of starts (item.Placed start commit) = is_among start starts
is_of starts (item.Committed session start commit) = is_among start starts
is_of starts (item.Mark actor start) = is_among start starts
is_of starts (item.End session start how) = is_among start starts
is_of starts _ = false

-- or it has one of these numbers
abbrev pub is_about : List ℕ → List ℕ → ℕ → Item → Bool
is_about starts numbers number x = is_of starts x || is_among number numbers

-- ---- the items that pass a test on their number and words, of so many from a place on; each with the bar that it opens
abbrev pub chosen_if : Bool → List Item → ℕ → Item → List Chosen
chosen_if fits items place x = if fits then record { number = place + 1; item = x; bar = bar_of items place x } ∷ [] else []

abbrev pub chosen_at : (ℕ → Item → Bool) → List Item → ℕ → Option Item → List Chosen
chosen_at test items place None = []
chosen_at test items place (Some x) = chosen_if (test (place + 1) x) items place x

unfoldable pub chosen_below : (ℕ → Item → Bool) → List Item → ℕ → ℕ → List Chosen
chosen_below test items from zero = []
chosen_below test items from (suc count) = chosen_below test items from count ++ chosen_at test items (from + count) (slice_get items (from + count))

-- of a part of the history, all items or all but minor ones
abbrev pub chosen_in : Bool → List Item → ℕ → ℕ → List Chosen
chosen_in brief items from count = chosen_below (λ number x. is_kept brief x) items from count

-- of the whole history, those of some transactions, and those of some numbers
abbrev pub chosen_about : List ℕ → List ℕ → List Item → List Chosen
chosen_about starts numbers items = chosen_below (λ number x. is_about starts numbers number x) items 0 (length items)

-- ---- where a place of the history, counted from 0, stands in a picture: behind so many signs
unfoldable pub column_of : ℕ → List Chosen → ℕ
column_of place [] = 0
column_of place (x ∷ xs) = (if leb x.number place then 1 else 0) + column_of place xs

abbrev pub bar_shown : List Chosen → Bar → Bar
bar_shown chosen bar = record { to = column_of bar.to chosen; kind = bar.kind }
