use Rattle.std.proofs.Common.{◌≡◌, ◌++◌, take}
use Rattle.history_page.specs.Pages.{item_lines}
use Rattle.history_page.proofs.page.print_item_lines.Given as goal

abbrev pub invariant-loop-item : goal.invariant-loop-item
invariant-loop-item l = l.text ≡ l.fn.text ++ item_lines (take l.item-index l.items)
