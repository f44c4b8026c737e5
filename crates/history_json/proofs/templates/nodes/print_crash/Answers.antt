use Rattle.history_json.proofs.PlainLemmas.{node_plain}
use Rattle.history_json.proofs.TemplateLemmas.{crash_line}
use Rattle.history_json.proofs.templates.nodes.print_crash.Goals as goal

pub returns-clause-text : goal.returns-clause-text
returns-clause-text c = rw (c.push_text.ensures.text, c.push_field.ensures.text, c.push_node.ensures.text, c.set_text.ensures, c.value.ensures.value) (crash_line _ _ (node_plain _ c.push_node.ensures.fits))
