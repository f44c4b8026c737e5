use Rattle.std.proofs.Common.{◌≡◌, ◌++◌}
use Rattle.history_view.specs.Page.{legends_text}
use Rattle.history_view.proofs.page.print_legends.Given as goal

abbrev pub invariant-loop-number : goal.invariant-loop-number
invariant-loop-number l = l.text ≡ l.fn.text ++ legends_text l.wide l.y l.keys l.number
