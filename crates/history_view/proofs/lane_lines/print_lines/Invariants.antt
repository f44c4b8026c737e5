use Rattle.std.proofs.Common.{◌≡◌, ◌++◌, drop}
use Rattle.history_view.specs.Page.{line_text}
use Rattle.history_view.specs.Words.{each_text}
use Rattle.history_view.proofs.lane_lines.print_lines.Given as goal

abbrev pub invariant-loop-row : goal.invariant-loop-row
invariant-loop-row l = l.text ++ each_text (λ row lane. line_text l.wide l.width l.count row lane) l.row (drop l.row l.lanes) ≡ l.fn.text ++ each_text (λ row lane. line_text l.wide l.width l.count row lane) 0 l.lanes
