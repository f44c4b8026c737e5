use Rattle.std.proofs.Common.{◌≡◌, ◌∙◌, false, true, sym, ap}
use Rattle.std.specs.Prelude.{is_some}
use Rattle.line_reasons.proofs.ValueLemmas.{no_value}
use Rattle.line_reasons.proofs.value.is_value.Goals as goal

pub returns : goal.returns
returns c = λ none. no_value c.args.wants c.args.said.now (λ x fits is.
    let found = c.read_item.ensures.only x fits (c.deref.ensures.value ∙ (c.in_ok-line.ensures ∙ is)) in
    let e : true ≡ false = sym (ap is_some found) ∙ (sym c.is_some.ensures ∙ none) in
    cc)
