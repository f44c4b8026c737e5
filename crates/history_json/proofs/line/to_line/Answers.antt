use Rattle.std.proofs.Common.{ℕ, List, ◌∙◌, sym, subst, IsUtf8}
use Rattle.history_json.specs.Json.{IsJsonLineOf}
use Rattle.history_json.proofs.ObjectLemmas.{printed_again}
use Rattle.history_json.proofs.line.to_line.Goals as goal

pub text_of-requires : goal.text_of-requires
text_of-requires c =
    subst IsUtf8 (sym (c.as_slice.ensures.value ∙ c.print_object.ensures.text)) (printed_again c.args.item.now c.print_object.ensures.fits).utf8

pub returns-clause-read_again : goal.returns-clause-read_again
returns-clause-read_again c =
    let same = c.in_ok-from_str.ensures.ok ∙ c.text_of.ensures ∙ c.as_slice.ensures.value ∙ c.print_object.ensures.text in
    subst (λ (bs : List ℕ). IsJsonLineOf bs c.args.item.now) (sym same) (printed_again c.args.item.now c.print_object.ensures.fits)
