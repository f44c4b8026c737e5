use Rattle.std.proofs.Common.{◌≡◌, ◌++◌, drop}
use Rattle.history_view.specs.Marks.{sign_text}
use Rattle.history_view.specs.Words.{each_text}
use Rattle.history_view.proofs.picture.print_signs.Given as goal

abbrev pub invariant-loop-column : goal.invariant-loop-column
invariant-loop-column l = l.text ++ each_text (λ column sign. sign_text l.wide column sign) l.column (drop l.column l.signs) ≡ l.fn.text ++ each_text (λ column sign. sign_text l.wide column sign) 0 l.signs
