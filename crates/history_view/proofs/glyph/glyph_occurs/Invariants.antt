use Rattle.std.proofs.Common.{◌≡◌, ◌==◌, drop}
use Rattle.std.specs.List.{list_any}
use Rattle.history_view.specs.Glyphs.{glyph_number, glyph_of}
use Rattle.history_view.proofs.glyph.glyph_occurs.Given as goal

abbrev pub invariant-loop-sign : goal.invariant-loop-sign
invariant-loop-sign l = list_any (λ sign. glyph_number (glyph_of sign.item) == glyph_number l.glyph) (drop l.sign-index l.signs) ≡ list_any (λ sign. glyph_number (glyph_of sign.item) == glyph_number l.glyph) l.signs
