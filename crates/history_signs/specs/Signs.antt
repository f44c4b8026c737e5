-- The signs of a picture: one for each item that it shows, in order.
use Rattle.std.specs.Prelude.{◌≡◌, ℕ, ◌+◌, ◌<◌, ◌≤◌, false, true, List, Option, None, Some, MatchOption, length, slice_get}
use Rattle.history_book.specs.declared.item.Item.{Item}
use Rattle.history_signs.specs.declared.bar.Bar.{Bar}
use Rattle.history_signs.specs.declared.chosen.Chosen.{Chosen}
use Rattle.history_signs.specs.declared.sign.Link.{Link}
use Rattle.history_signs.specs.declared.sign.Sign.{Sign}
use Rattle.history_signs.specs.Chosen.{bar_shown, is_among}
use Rattle.history_signs.specs.Lanes.{lane_of, row_of}
use Rattle.history_signs.specs.Shown.{is_shown_by}

-- none of the signs from a column on and before another shows the item
abbrev pub NoneShows : List Chosen → Item → ℕ → ℕ → Type 0
NoneShows chosen item from to = (column : ℕ) (x : Chosen) → from ≤ column → column < to → slice_get chosen column ≡ Some x → is_shown_by item x.item ≡ false

-- the last of the signs before the column that shows the item there, and its row
pub record IsLink (lanes : List ℕ) (chosen : List Chosen) (column : ℕ) (item : Item) (link : Link) : Type 0 where
  pub before : link.column < column
  pub earlier : Chosen
  pub stands : slice_get chosen link.column ≡ Some earlier
  pub shows : is_shown_by item earlier.item ≡ true
  pub last : NoneShows chosen item (link.column + 1) column
  pub row : link.row ≡ row_of (lane_of earlier.item) lanes

abbrev pub optional_bar : List Chosen → Option Bar → Option Bar
optional_bar chosen None = None
optional_bar chosen (Some bar) = Some (bar_shown chosen bar)

-- the sign of a chosen item in its column; those of these numbers are ringed
pub record IsSign (lanes ringed : List ℕ) (chosen : List Chosen) (column : ℕ) (x : Chosen) (sign : Sign) : Type 0 where
  pub item_is : sign.item ≡ x.item
  pub number_is : sign.number ≡ x.number
  pub row_is : sign.row ≡ row_of (lane_of x.item) lanes
  pub bar_is : sign.bar ≡ optional_bar chosen x.bar
  pub link_is : MatchOption sign.link (NoneShows chosen x.item 0 column) (IsLink lanes chosen column x.item)
  pub ringed_is : sign.ringed ≡ is_among x.number ringed

-- there is a sign for each of these items, in order
pub record AreSigns (lanes ringed : List ℕ) (chosen : List Chosen) (signs : List Sign) : Type 0 where
  pub all : length signs ≡ length chosen
  pub each : (column : ℕ) (x : Chosen) (sign : Sign) → slice_get chosen column ≡ Some x → slice_get signs column ≡ Some sign → IsSign lanes ringed chosen column x sign
