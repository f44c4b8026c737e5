-- The text of a picture: its page and style, its caption, its lanes, its signs and its legend.
use Rattle.std.specs.Prelude.{ℕ, zero, suc, ◌+◌, ◌-◌, ◌*◌, ◌/◌, ◌%◌, ltb, ◌==◌, Bool, if◌then◌else◌, max, min, List, [], ◌++◌, length, codes, decimal}
use Rattle.std.specs.List.{flat_map}
use Rattle.history_text.specs.Words.{node_text}
use Rattle.history_signs.specs.declared.earlier.EarlierBar.{EarlierBar}
use Rattle.history_view.specs.declared.glyph.Key.{Key}
use Rattle.history_view.specs.declared.glyph.Key.TheVariants as key
use Rattle.history_view.specs.declared.picture.Frame.{Frame}
use Rattle.history_signs.specs.declared.sign.Sign.{Sign}
use Rattle.history_view.specs.Glyphs.{class_text, keys_for, kind_text, meaning}
use Rattle.history_view.specs.Marks.{any_arrow_text, any_bar_text, column_x, dot_text, earlier_bar_text, row_y, sign_text}
use Rattle.history_view.specs.Style.{style_text}
use Rattle.history_view.specs.Words.{each_text, escaped}

-- ---- how large the page is
abbrev pub page_width : Bool → ℕ → ℕ → ℕ
page_width wide count keys = max (max 480 (column_x wide count + 30)) (24 + 104 * min keys 8)

abbrev pub page_height : ℕ → ℕ → ℕ
page_height rows keys = row_y rows + 22 + 18 * ((min keys 64 + 7) / 8)

-- ---- its head
unfoldable pub open_text : ℕ → ℕ → List ℕ
open_text width height =
    codes "<svg xmlns='http://www.w3.org/2000/svg' width='" ++ decimal width ++ codes "' height='" ++ decimal height
    ++ codes "' viewBox='0 0 " ++ decimal width ++ codes " " ++ decimal height
    ++ codes "' font-family='sans-serif' font-size='11' text-anchor='middle'>\n"

unfoldable pub ground_text : ℕ → ℕ → List ℕ
ground_text width height = codes "<rect class='page' width='" ++ decimal width ++ codes "' height='" ++ decimal height ++ codes "'/>\n"

-- ---- its caption, and which items it shows: those of these numbers, and how many of them it leaves out
unfoldable pub caption_text : List ℕ → List ℕ
caption_text caption = codes "<text class='caption' x='12' y='20'>" ++ escaped caption ++ codes "</text>\n"

abbrev pub left_out : Frame → ℕ → ℕ
left_out frame shown = (frame.last + 1) - frame.first - shown

unfoldable pub left_text : ℕ → List ℕ
left_text zero = []
left_text (suc n) = codes ", " ++ decimal (suc n) ++ codes " of them left out"

unfoldable pub frame_text : Frame → ℕ → List ℕ
frame_text frame left =
    codes "<text class='lane n' x='12' y='36'>items " ++ decimal frame.first ++ codes " to " ++ decimal frame.last ++ codes " of " ++ decimal frame.total
    ++ left_text left ++ codes "</text>\n"

-- ---- its lanes
-- a node's and a session's lane have their names; the others are the clock's, the commit table's and the janitor's
abbrev pub lane_text : ℕ → List ℕ
lane_text lane =
    if lane == 0 then codes "clock"
    else if ltb lane 9 then codes "node " ++ node_text (lane - 1)
    else if lane == 9 then codes "commit table"
    else if ltb lane 26 then codes "session " ++ decimal (lane - 10)
    else codes "janitor"

-- a line across the page, with the name of the lane
unfoldable pub rule_text : ℕ → ℕ → List ℕ
rule_text width y = codes "<line x1='92' x2='" ++ decimal width ++ codes "' y1='" ++ decimal y ++ codes "' y2='" ++ decimal y ++ codes "'/>"

unfoldable pub name_text : ℕ → ℕ → List ℕ
name_text y lane = codes "<text class='lane' x='6' y='" ++ decimal (y + 4) ++ codes "'>" ++ lane_text lane ++ codes "</text>\n"

-- the name again, above the line
unfoldable pub again_text : ℕ → ℕ → ℕ → List ℕ
again_text x y lane = codes "<text class='lane again' x='" ++ decimal x ++ codes "' y='" ++ decimal y ++ codes "'>" ++ lane_text lane ++ codes "</text>\n"

-- at each fiftieth column, so many of them: the last has room before the page's end
unfoldable pub names_text : Bool → ℕ → ℕ → ℕ → List ℕ
names_text wide y lane zero = []
names_text wide y lane (suc names) = names_text wide y lane names ++ again_text (column_x wide (50 * (names + 1))) (y - 13) lane

-- on a page of so many signs
abbrev pub line_text : Bool → ℕ → ℕ → ℕ → ℕ → List ℕ
line_text wide width count row lane = rule_text width (row_y row) ++ name_text (row_y row) lane ++ names_text wide (row_y row) lane ((count - 10) / 50)

abbrev pub lines_text : Bool → ℕ → ℕ → List ℕ → List ℕ
lines_text wide width count lanes = each_text (λ row lane. line_text wide width count row lane) 0 lanes

-- ---- its signs, in three layers: bars, arrows, and the signs themselves, one for each, in order
abbrev pub earlier_text : Bool → List EarlierBar → List ℕ
earlier_text wide bars = flat_map (λ bar. earlier_bar_text wide bar) bars

abbrev pub bars_text : Bool → List Sign → List ℕ
bars_text wide signs = each_text (λ column sign. any_bar_text wide column sign sign.bar) 0 signs

abbrev pub arrows_text : Bool → List Sign → List ℕ
arrows_text wide signs = each_text (λ column sign. any_arrow_text wide column sign sign.link) 0 signs

abbrev pub signs_text : Bool → List Sign → List ℕ
signs_text wide signs = each_text (λ column sign. sign_text wide column sign) 0 signs

-- ---- its legend: what occurs in it, eight in a line, again behind each two hundred columns where it fits
unfoldable pub bar_key_text : ℕ → ℕ → List ℕ → List ℕ
bar_key_text x y class =
    codes "<g class='" ++ class ++ codes "'>" ++ codes "<rect x='" ++ decimal (x - 9) ++ codes "' y='" ++ decimal (y - 7)
    ++ codes "' width='18' height='14' rx='5'/></g>"

unfoldable pub sign_key_text : ℕ → ℕ → List ℕ → List ℕ → List ℕ
sign_key_text x y class dot = codes "<g class='" ++ class ++ codes "'>" ++ dot ++ codes "</g>"

abbrev pub key_sign_text : ℕ → ℕ → Key → List ℕ
key_sign_text x y (key.Bar kind) = bar_key_text x y (kind_text kind)
key_sign_text x y (key.Sign glyph) = sign_key_text x y (class_text glyph) (dot_text x y glyph)

abbrev pub key_words : Key → List ℕ
key_words (key.Bar kind) = kind_text kind
key_words (key.Sign glyph) = meaning glyph

unfoldable pub words_text : ℕ → ℕ → List ℕ → List ℕ
words_text x y words = codes "<text class='lane n' x='" ++ decimal (x + 13) ++ codes "' y='" ++ decimal (y + 4) ++ codes "'>" ++ words ++ codes "</text>\n"

-- where a legend's number stands
abbrev pub key_x : ℕ → ℕ → ℕ
key_x base number = base + 104 * (number % 8)

abbrev pub key_y : ℕ → ℕ → ℕ
key_y y number = y + 18 * (min number 63 / 8)

abbrev pub key_text : ℕ → ℕ → ℕ → Key → List ℕ
key_text base y number it = key_sign_text (key_x base number) (key_y y number) it ++ words_text (key_x base number) (key_y y number) (key_words it)

abbrev pub legend_text : ℕ → ℕ → List Key → List ℕ
legend_text base y keys = each_text (λ number it. key_text base y number it) 0 keys

unfoldable pub legends_text : Bool → ℕ → List Key → ℕ → List ℕ
legends_text wide y keys zero = []
legends_text wide y keys (suc n) = legends_text wide y keys n ++ legend_text (column_x wide (200 * n) - 72) y keys

-- ---- the whole
abbrev pub body_text : Frame → ℕ → List ℕ → List EarlierBar → List Sign → List ℕ
body_text frame width lanes earlier signs =
    lines_text frame.wide width (length signs) lanes ++ earlier_text frame.wide earlier
    ++ bars_text frame.wide signs ++ arrows_text frame.wide signs ++ signs_text frame.wide signs

abbrev pub sized_head_text : Frame → List ℕ → ℕ → ℕ → ℕ → List ℕ
sized_head_text frame caption width height shown =
    open_text width height ++ style_text ++ ground_text width height ++ caption_text caption ++ frame_text frame (left_out frame shown)

abbrev pub head_text : Frame → List ℕ → ℕ → ℕ → ℕ → List ℕ
head_text frame caption shown rows keys = sized_head_text frame caption (page_width frame.wide shown keys) (page_height rows keys) shown

abbrev pub page_text : Frame → List ℕ → List ℕ → List EarlierBar → List Sign → List Key → List ℕ
page_text frame caption lanes earlier signs keys =
    head_text frame caption (length signs) (length lanes) (length keys)
    ++ body_text frame (page_width frame.wide (length signs) (length keys)) lanes earlier signs
    ++ legends_text frame.wide (row_y (length lanes) + 16) keys ((length signs - 50) / 200 + 1) ++ codes "</svg>\n"

abbrev pub picture_text : Frame → List ℕ → List ℕ → List EarlierBar → List Sign → List ℕ
picture_text frame caption lanes earlier signs = page_text frame caption lanes earlier signs (keys_for earlier signs)
