use Rattle.std.proofs.Common.{◌≡◌, ◌++◌, take}
use Rattle.history_page.specs.Pages.{bar_lines}
use Rattle.history_page.proofs.page.print_bar_lines.Given as goal

abbrev pub invariant-loop-one : goal.invariant-loop-one
invariant-loop-one l = l.text ≡ l.fn.text ++ bar_lines (take l.one-index l.chosen)
