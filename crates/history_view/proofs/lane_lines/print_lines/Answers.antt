use Rattle.std.proofs.Common.{arith, ◌∙◌}
use Rattle.history_view.specs.Page.{line_text}
use Rattle.history_view.proofs.TextLemmas.{one_each}
use Rattle.history_view.proofs.lane_lines.print_lines.Goals as goal

pub loop-row-preserved : goal.loop-row-preserved
loop-row-preserved c =
    one_each (λ row lane. line_text c.args.wide c.args.width c.args.count row lane) c.loop-row.text c.print_line.new.text c.loop-row.row c.args.lanes.now 0 (omega arith) c.in_ok-print_line.ensures ∙ c.loop-row.invariant
