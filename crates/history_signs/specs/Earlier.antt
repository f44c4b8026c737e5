-- The bars that go on in a picture: items before its first one open them, and end behind it.
use Rattle.std.specs.Prelude.{ℕ, zero, suc, leb, ◌&&◌, if◌then◌else◌, List, [], ◌∷◌, ◌++◌, Option, None, Some, slice_get}
use Rattle.history_book.specs.declared.item.Item.{Item}
use Rattle.history_signs.specs.declared.bar.Bar.{Bar}
use Rattle.history_signs.specs.declared.chosen.Chosen.{Chosen}
use Rattle.history_signs.specs.declared.earlier.EarlierBar.{EarlierBar}
use Rattle.history_signs.specs.Bars.{bar_of}
use Rattle.history_signs.specs.Chosen.{bar_shown, is_among}
use Rattle.history_signs.specs.Lanes.{lane_of, row_of}

-- a bar goes on where it ends at the first place or behind it, in a lane of the picture
abbrev pub goes_on : List ℕ → List Chosen → ℕ → Item → Option Bar → Option EarlierBar
goes_on lanes chosen from opener None = None
goes_on lanes chosen from opener (Some bar) =
    if leb from bar.to && is_among (lane_of opener) lanes
    then Some (record { opener = opener; row = row_of (lane_of opener) lanes; bar = bar_shown chosen bar })
    else None

abbrev pub optional : Option EarlierBar → List EarlierBar
optional None = []
optional (Some bar) = bar ∷ []

-- the bar that the item at the place opens, as it goes on
abbrev pub earlier_at : List ℕ → List Chosen → ℕ → List Item → ℕ → Option Item → List EarlierBar
earlier_at lanes chosen from items place None = []
earlier_at lanes chosen from items place (Some opener) = optional (goes_on lanes chosen from opener (bar_of items place opener))

-- the bars that go on, of those that the first so many items open
unfoldable pub earlier_below : List ℕ → List Chosen → ℕ → List Item → ℕ → List EarlierBar
earlier_below lanes chosen from items zero = []
earlier_below lanes chosen from items (suc place) = earlier_below lanes chosen from items place ++ earlier_at lanes chosen from items place (slice_get items place)

-- in a picture of items from a place on, in these lanes, the bars that go on in it
abbrev pub earlier_bars : List ℕ → List Chosen → ℕ → List Item → List EarlierBar
earlier_bars lanes chosen from items = earlier_below lanes chosen from items from
