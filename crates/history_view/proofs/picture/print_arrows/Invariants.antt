use Rattle.std.proofs.Common.{◌≡◌, ◌++◌, drop}
use Rattle.history_view.specs.Marks.{any_arrow_text}
use Rattle.history_view.specs.Words.{each_text}
use Rattle.history_view.proofs.picture.print_arrows.Given as goal

abbrev pub invariant-loop-column : goal.invariant-loop-column
invariant-loop-column l = l.text ++ each_text (λ column sign. any_arrow_text l.wide column sign sign.link) l.column (drop l.column l.signs) ≡ l.fn.text ++ each_text (λ column sign. any_arrow_text l.wide column sign sign.link) 0 l.signs
