use Rattle.std.proofs.Common.{◌≡◌, ◌++◌, drop}
use Rattle.history_view.specs.Marks.{any_bar_text}
use Rattle.history_view.specs.Words.{each_text}
use Rattle.history_view.proofs.picture.print_bars.Given as goal

abbrev pub invariant-loop-column : goal.invariant-loop-column
invariant-loop-column l = l.text ++ each_text (λ column sign. any_bar_text l.wide column sign sign.bar) l.column (drop l.column l.signs) ≡ l.fn.text ++ each_text (λ column sign. any_bar_text l.wide column sign sign.bar) 0 l.signs
