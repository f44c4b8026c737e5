use Rattle.std.proofs.Common.{arith, ◌∙◌, ◌++◌, ap}
use Rattle.history_signs.specs.declared.sign.Sign.{Sign}
use Rattle.history_view.specs.Marks.{any_bar_text}
use Rattle.history_view.proofs.TextLemmas.{one_each}
use Rattle.history_view.proofs.picture.print_bars.Goals as goal

pub loop-column-preserved : goal.loop-column-preserved
loop-column-preserved c =
    let sign = c.index-signs-column.result in
    let is = c.in_ok-print_any_bar.ensures ∙ ap (λ (there : Sign). c.loop-column.text ++ any_bar_text c.args.wide c.loop-column.column there there.bar) c.index-signs-column.is in
    one_each (λ column it. any_bar_text c.args.wide column it it.bar) c.loop-column.text c.print_any_bar.new.text c.loop-column.column c.args.signs.now sign (omega arith) is ∙ c.loop-column.invariant
