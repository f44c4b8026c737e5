use Rattle.std.proofs.Common.{arith, ◌∙◌, ◌++◌, ap}
use Rattle.history_signs.specs.declared.sign.Sign.{Sign}
use Rattle.history_view.specs.Marks.{sign_text}
use Rattle.history_view.proofs.TextLemmas.{one_each}
use Rattle.history_view.proofs.picture.print_signs.Goals as goal

pub loop-column-preserved : goal.loop-column-preserved
loop-column-preserved c =
    let sign = c.index-signs-column.result in
    let is = c.in_ok-print_sign.ensures ∙ ap (λ (there : Sign). c.loop-column.text ++ sign_text c.args.wide c.loop-column.column there) c.index-signs-column.is in
    one_each (λ column it. sign_text c.args.wide column it) c.loop-column.text c.print_sign.new.text c.loop-column.column c.args.signs.now sign (omega arith) is ∙ c.loop-column.invariant
