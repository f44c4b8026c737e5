use Rattle.std.proofs.Common.{arith, ◌∙◌, ◌++◌, ap}
use Rattle.history_signs.specs.declared.sign.Sign.{Sign}
use Rattle.history_view.specs.Marks.{any_arrow_text}
use Rattle.history_view.proofs.TextLemmas.{one_each}
use Rattle.history_view.proofs.picture.print_arrows.Goals as goal

pub loop-column-preserved : goal.loop-column-preserved
loop-column-preserved c =
    let sign = c.index-signs-column.result in
    let is = c.in_ok-print_any_arrow.ensures ∙ ap (λ (there : Sign). c.loop-column.text ++ any_arrow_text c.args.wide c.loop-column.column there there.link) c.index-signs-column.is in
    one_each (λ column it. any_arrow_text c.args.wide column it it.link) c.loop-column.text c.print_any_arrow.new.text c.loop-column.column c.args.signs.now sign (omega arith) is ∙ c.loop-column.invariant
