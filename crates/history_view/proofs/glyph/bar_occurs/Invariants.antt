use Rattle.std.proofs.Common.{◌≡◌, drop}
use Rattle.std.specs.List.{list_any}
use Rattle.history_view.specs.Glyphs.{has_kind}
use Rattle.history_view.proofs.glyph.bar_occurs.Given as goal

abbrev pub invariant-loop-sign : goal.invariant-loop-sign
invariant-loop-sign l = list_any (λ sign. has_kind l.kind sign.bar) (drop l.sign-index l.signs) ≡ list_any (λ sign. has_kind l.kind sign.bar) l.signs
