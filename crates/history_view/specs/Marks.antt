-- The text of one sign, in three layers: its bar, its arrow, and over them the sign itself with a short label.
use Rattle.std.specs.Prelude.{ℕ, ◌+◌, ◌-◌, ◌*◌, ◌%◌, ◌==◌, Bool, true, false, ◌||◌, ltb, if◌then◌else◌, min, take, List, [], ◌++◌, Option, None, Some, codes, decimal}
use Rattle.history_book.specs.declared.item.Found.{Found}
use Rattle.history_book.specs.declared.item.Item.{Item}
use Rattle.history_book.specs.declared.item.Item.TheVariants as item
use Rattle.history_signs.specs.declared.bar.Bar.{Bar}
use Rattle.history_signs.specs.declared.earlier.EarlierBar.{EarlierBar}
use Rattle.history_view.specs.declared.glyph.Glyph.{Glyph}
use Rattle.history_view.specs.declared.glyph.Glyph.TheVariants as glyph
use Rattle.history_signs.specs.declared.sign.Link.{Link}
use Rattle.history_signs.specs.declared.sign.Sign.{Sign}
use Rattle.history_text.specs.Text.{body_of}
use Rattle.history_view.specs.Glyphs.{class_text, glyph_of, kind_text, letter}
use Rattle.history_view.specs.Words.{escaped}

-- how far apart columns stand: a wide picture has room for values
abbrev pub pitch : Bool → ℕ
pitch wide = if wide then 64 else 16

-- where a column and a row stand; what is past the last of them stands at the edge
abbrev pub column_x : Bool → ℕ → ℕ
column_x wide column = 96 + min (pitch wide * min column 2000) 32000

abbrev pub row_y : ℕ → ℕ
row_y row = 78 + 46 * min row 26

-- ---- bars
unfoldable pub rect_text : ℕ → ℕ → ℕ → List ℕ
rect_text x y width = codes "<rect x='" ++ decimal x ++ codes "' y='" ++ decimal y ++ codes "' width='" ++ decimal width ++ codes "' height='22' rx='7'/>"

-- the number and the words of an item, which a reader sees over what is drawn of it
unfoldable pub title_text : List ℕ → ℕ → Item → List ℕ
title_text class number item = codes "<g class='" ++ class ++ codes "'><title>" ++ decimal number ++ codes ": " ++ escaped (body_of item) ++ codes "</title>"

-- a bar goes round its first sign and its last
unfoldable pub bar_text : Bool → ℕ → Sign → Bar → List ℕ
bar_text wide column sign bar =
    title_text (kind_text bar.kind) sign.number sign.item
    ++ rect_text (column_x wide column - 7) (row_y sign.row - 11) (column_x wide bar.to - column_x wide column + 14) ++ codes "</g>\n"

abbrev pub any_bar_text : Bool → ℕ → Sign → Option Bar → List ℕ
any_bar_text wide column sign None = []
any_bar_text wide column sign (Some bar) = bar_text wide column sign bar

-- a bar that goes on from before the first sign: it begins left of it, and has the words of the item that opened it
unfoldable pub opener_text : List ℕ → Item → List ℕ
opener_text class opener = codes "<g class='" ++ class ++ codes "'><title>before: " ++ escaped (body_of opener) ++ codes "</title>"

unfoldable pub earlier_bar_text : Bool → EarlierBar → List ℕ
earlier_bar_text wide earlier =
    opener_text (kind_text earlier.bar.kind) earlier.opener ++ rect_text 82 (row_y earlier.row - 11) (column_x wide earlier.bar.to - 75) ++ codes "</g>\n"

-- ---- arrows
-- beside the lane to which a curve goes, so far from it: between it and the lane before
abbrev pub beside : ℕ → ℕ → ℕ → ℕ
beside gap y to_y = if ltb to_y y then to_y + gap else to_y - gap

-- a curve that leaves its sign across the lane, goes along at a height, and from near the other sign's lane straight to that
unfoldable pub bent_text : ℕ → ℕ → ℕ → ℕ → ℕ → ℕ → List ℕ
bent_text x y along near to_x to_y =
    codes "M" ++ decimal x ++ codes " " ++ decimal y ++ codes "C" ++ decimal x ++ codes " " ++ decimal along
    ++ codes " " ++ decimal to_x ++ codes " " ++ decimal along ++ codes " " ++ decimal to_x ++ codes " " ++ decimal near
    ++ codes "V" ++ decimal to_y

-- the point of its arrow stands on the straight part
abbrev pub curve_text : ℕ → ℕ → ℕ → ℕ → List ℕ
curve_text x y to_x to_y = bent_text x y (beside 22 y to_y) (beside 14 y to_y) to_x to_y

-- to a refusal it is red; over more than a hundred columns it is faint
abbrev pub is_bad : Glyph → Bool
is_bad glyph.Refused = true
is_bad _ = false

abbrev pub arrow_class : Bool → Bool → List ℕ
arrow_class bad far = if bad then (if far then codes "bad far" else codes "bad") else if far then codes "link far" else codes "link"

-- an arrow from the sign that shows this one
unfoldable pub arrow_text : Bool → ℕ → Sign → Link → List ℕ
arrow_text wide column sign link =
    codes "<path class='" ++ arrow_class (is_bad (glyph_of sign.item)) (ltb 100 (column - link.column)) ++ codes "' d='"
    ++ curve_text (column_x wide link.column) (row_y link.row) (column_x wide column) (row_y sign.row) ++ codes "'/>\n"

abbrev pub any_arrow_text : Bool → ℕ → Sign → Option Link → List ℕ
any_arrow_text wide column sign None = []
any_arrow_text wide column sign (Some link) = arrow_text wide column sign link

-- ---- signs
-- the number below a sign: a clock's time, a term, a stamp or a key; in a wide picture a value besides, up to its eighth byte
abbrev pub stamp_text : ℕ → Option ℕ → List ℕ
stamp_text start None = decimal start
stamp_text start (Some commit) = decimal commit

abbrev pub value_text : Bool → List ℕ → List ℕ
value_text wide value = if wide then codes " " ++ escaped (take 8 value) else []

abbrev pub found_text : Bool → Option Found → List ℕ
found_text wide None = if wide then codes " none" else []
found_text wide (Some found) = value_text wide found.value

abbrev pub label : Bool → Item → List ℕ
label wide (item.Tick to) = decimal to
label wide (item.Take node reading term epoch until ceiling) = codes "t" ++ decimal term
label wide (item.Draw session node term start commit) = stamp_text start commit
label wide (item.Begin session start) = decimal start
label wide (item.Placed start commit) = decimal commit
label wide (item.Write session start key value) = codes "k" ++ decimal key ++ value_text wide value
label wide (item.Read session start key answer) = codes "k" ++ decimal key ++ found_text wide answer
label wide _ = []

unfoldable pub label_text : Bool → ℕ → ℕ → Item → List ℕ
label_text wide x y item = codes "<text class='n' x='" ++ decimal x ++ codes "' y='" ++ decimal (y + 21) ++ codes "'>" ++ label wide item ++ codes "</text>"

-- each tenth item has its number at the top, in a wide picture each
unfoldable pub number_text : Bool → ℕ → ℕ → List ℕ
number_text wide x number =
    if wide || (number % 10 == 0) then codes "<text class='n' x='" ++ decimal x ++ codes "' y='56'>" ++ decimal number ++ codes "</text>" else []

unfoldable pub circle_text : ℕ → ℕ → ℕ → List ℕ
circle_text x y radius = codes "<circle cx='" ++ decimal x ++ codes "' cy='" ++ decimal y ++ codes "' r='" ++ decimal radius ++ codes "'/>"

-- a circle with a letter in it
unfoldable pub letter_text : ℕ → ℕ → List ℕ → List ℕ
letter_text x y word = circle_text x y 7 ++ codes "<text x='" ++ decimal x ++ codes "' y='" ++ decimal (y + 4) ++ codes "'>" ++ word ++ codes "</text>"

abbrev pub dot_text : ℕ → ℕ → Glyph → List ℕ
dot_text x y glyph.Dot = circle_text x y 3
dot_text x y glyph = letter_text x y (letter glyph)

unfoldable pub ring_text : ℕ → ℕ → List ℕ
ring_text x y = codes "<g class='ring'>" ++ circle_text x y 13 ++ codes "</g>"

abbrev pub any_ring_text : ℕ → ℕ → Bool → List ℕ
any_ring_text x y true = ring_text x y
any_ring_text x y false = []

-- the sign in its column
unfoldable pub sign_text : Bool → ℕ → Sign → List ℕ
sign_text wide column sign =
    title_text (class_text (glyph_of sign.item)) sign.number sign.item
    ++ any_ring_text (column_x wide column) (row_y sign.row) sign.ringed
    ++ dot_text (column_x wide column) (row_y sign.row) (glyph_of sign.item)
    ++ label_text wide (column_x wide column) (row_y sign.row) sign.item
    ++ number_text wide (column_x wide column) sign.number ++ codes "</g>\n"
