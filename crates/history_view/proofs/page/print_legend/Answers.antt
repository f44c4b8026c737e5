use Rattle.std.proofs.Common.{arith, ◌∙◌}
use Rattle.history_view.specs.Page.{key_text}
use Rattle.history_view.proofs.TextLemmas.{one_each}
use Rattle.history_view.proofs.page.print_legend.Goals as goal

pub loop-number-preserved : goal.loop-number-preserved
loop-number-preserved c =
    one_each (λ number it. key_text c.args.base c.args.y number it) c.loop-number.text c.print_key.new.text c.loop-number.number c.args.keys.now _ (omega arith) c.in_ok-print_key.ensures ∙ c.loop-number.invariant
