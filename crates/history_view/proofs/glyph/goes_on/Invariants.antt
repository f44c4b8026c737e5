use Rattle.std.proofs.Common.{◌≡◌, ◌==◌, drop}
use Rattle.std.specs.List.{list_any}
use Rattle.history_view.specs.Glyphs.{kind_number}
use Rattle.history_view.proofs.glyph.goes_on.Given as goal

abbrev pub invariant-loop-bar : goal.invariant-loop-bar
invariant-loop-bar l = list_any (λ bar. kind_number bar.bar.kind == kind_number l.kind) (drop l.bar-index l.earlier) ≡ list_any (λ bar. kind_number bar.bar.kind == kind_number l.kind) l.earlier
