use Rattle.history_json.proofs.PlainLemmas.{node_plain}
use Rattle.history_json.proofs.TemplateLemmas.{extend_line}
use Rattle.history_json.proofs.templates.nodes.print_extend.Goals as goal

pub returns-clause-text : goal.returns-clause-text
returns-clause-text c = rw (c.push_text-2.ensures.text, c.push_field.ensures.text, c.push_node.ensures.text, c.push_text.ensures.text, c.push_number.ensures.text, c.set_text.ensures, c.value.ensures.value) (extend_line _ _ _ (node_plain _ c.push_node.ensures.fits))
