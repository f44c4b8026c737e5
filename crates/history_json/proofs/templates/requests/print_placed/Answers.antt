use Rattle.history_json.proofs.TemplateLemmas.{placed_line}
use Rattle.history_json.proofs.templates.requests.print_placed.Goals as goal

pub returns-clause-text : goal.returns-clause-text
returns-clause-text c = rw (c.push_text.ensures.text, c.push_field.ensures.text, c.push_number.ensures.text, c.set_text.ensures, c.value.ensures.value, c.value-2.ensures.value) (placed_line _ _)
