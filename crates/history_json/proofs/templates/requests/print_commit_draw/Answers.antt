use Rattle.history_json.proofs.PlainLemmas.{node_plain, session_plain}
use Rattle.history_json.proofs.TemplateLemmas.{commit_draw_line}
use Rattle.history_json.proofs.templates.requests.print_commit_draw.Goals as goal

pub returns-clause-text : goal.returns-clause-text
returns-clause-text c = rw (c.push_text-3.ensures.text, c.push_field-2.ensures.text, c.push_field.ensures.text, c.push_session.ensures.text, c.push_text-2.ensures.text, c.push_node.ensures.text, c.push_text.ensures.text, c.push_number.ensures.text, c.set_text.ensures, c.value.ensures.value, c.value-2.ensures.value, c.value-3.ensures.value) (commit_draw_line _ _ _ _ _ (node_plain _ c.push_node.ensures.fits) (session_plain _ c.push_session.ensures.fits))
