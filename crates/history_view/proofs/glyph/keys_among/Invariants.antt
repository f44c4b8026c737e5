use Rattle.std.proofs.Common.{◌≡◌, take}
use Rattle.std.specs.List.{flat_map}
use Rattle.history_view.specs.Glyphs.{if_occurs}
use Rattle.history_view.proofs.glyph.keys_among.Given as goal

abbrev pub invariant-loop-key : goal.invariant-loop-key
invariant-loop-key l = l.keys.items ≡ flat_map (λ it. if_occurs l.earlier l.signs it) (take l.key-index l.all)
