-- The text of the page to explore a history: its data, which is exact, between pieces that stand in the code as they are written. What
-- the page's script makes of the data is no part of this.
use Rattle.std.specs.Prelude.{ℕ, List, [], ◌++◌, Option, None, Some, codes, decimal}
use Rattle.std.specs.List.{flat_map}
use Rattle.history_book.specs.declared.item.Item.{Item}
use Rattle.history_text.specs.Text.{body_of}
use Rattle.history_signs.specs.declared.bar.Bar.{Bar}
use Rattle.history_signs.specs.declared.chosen.Chosen.{Chosen}
use Rattle.history_view.specs.Glyphs.{kind_text}
use Rattle.history_view.specs.Words.{escaped}
use Rattle.history_page.specs.declared.html.TheConstants.{BARS, HEAD, SCRIPT, TOLD}

-- ---- the pieces that are the same on each page
unfoldable pub head_text : List ℕ
head_text = HEAD.now

unfoldable pub bars_head_text : List ℕ
bars_head_text = BARS.now

unfoldable pub told_head_text : List ℕ
told_head_text = TOLD.now

unfoldable pub foot_text : List ℕ
foot_text = SCRIPT.now

-- ---- the data
-- an item, in a line
unfoldable pub item_line : Item → List ℕ
item_line item = escaped (body_of item) ++ codes "\n"

abbrev pub item_lines : List Item → List ℕ
item_lines items = flat_map (λ it. item_line it) items

-- a bar, by the number of the item that opens it, the place where it ends, counted from 0, and how
unfoldable pub bar_line : ℕ → Bar → List ℕ
bar_line number bar = decimal number ++ codes " " ++ decimal bar.to ++ codes " " ++ kind_text bar.kind ++ codes "\n"

-- that of an item that opens one
abbrev pub bar_line_if : ℕ → Option Bar → List ℕ
bar_line_if number None = []
bar_line_if number (Some bar) = bar_line number bar

abbrev pub bar_lines : List Chosen → List ℕ
bar_lines chosen = flat_map (λ it. bar_line_if it.number it.bar) chosen

-- ---- the page: the head, each item once, the bars, what is told of the items, the foot
abbrev pub items_part : List Item → List ℕ
items_part items = head_text ++ item_lines items

abbrev pub bars_part : List Chosen → List ℕ
bars_part chosen = bars_head_text ++ bar_lines chosen

abbrev pub told_part : List ℕ → List ℕ
told_part told = told_head_text ++ escaped told ++ foot_text

abbrev pub page_text : List Item → List Chosen → List ℕ → List ℕ
page_text items chosen told = items_part items ++ bars_part chosen ++ told_part told
