use Rattle.history_json.proofs.TemplateLemmas.{tick_line}
use Rattle.history_json.proofs.templates.nodes.print_tick.Goals as goal

pub returns-clause-text : goal.returns-clause-text
returns-clause-text c = rw (c.push_text.ensures.text, c.push_number.ensures.text, c.set_text.ensures) (tick_line _)
