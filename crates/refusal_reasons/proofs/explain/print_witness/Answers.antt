use Rattle.std.proofs.Common.{◌++◌, append_assoc, ap, codes, ◌∙◌}
use Rattle.refusal_reasons.specs.Words.{named_text}
use Rattle.refusal_reasons.proofs.explain.print_witness.Goals as goal

pub returns : goal.returns
returns c =
    c.in_ok-print_named.ensures
    ∙ (ap (λ text. text ++ named_text c.args.number c.args.item.now) c.in_ok-push.ensures
    ∙ append_assoc c.args.text.now (codes "    shown by ") (named_text c.args.number c.args.item.now))
