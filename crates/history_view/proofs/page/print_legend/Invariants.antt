use Rattle.std.proofs.Common.{◌≡◌, ◌++◌, drop}
use Rattle.history_view.specs.Page.{key_text}
use Rattle.history_view.specs.Words.{each_text}
use Rattle.history_view.proofs.page.print_legend.Given as goal

abbrev pub invariant-loop-number : goal.invariant-loop-number
invariant-loop-number l = l.text ++ each_text (λ number it. key_text l.base l.y number it) l.number (drop l.number l.keys) ≡ l.fn.text ++ each_text (λ number it. key_text l.base l.y number it) 0 l.keys
