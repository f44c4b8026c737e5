use Rattle.std.proofs.Common.{◌≡◌, ◌++◌}
use Rattle.history_view.specs.Page.{names_text}
use Rattle.history_view.proofs.lane_lines.print_names.Given as goal

abbrev pub invariant-loop-number : goal.invariant-loop-number
invariant-loop-number l = l.text ≡ l.fn.text ++ names_text l.wide l.y l.lane l.number
