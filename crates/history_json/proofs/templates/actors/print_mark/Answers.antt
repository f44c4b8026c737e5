use Rattle.history_json.proofs.PlainLemmas.{actor_plain}
use Rattle.history_json.proofs.TemplateLemmas.{mark_line}
use Rattle.history_json.proofs.templates.actors.print_mark.Goals as goal

pub returns-clause-text : goal.returns-clause-text
returns-clause-text c = rw (c.push_text.ensures.text, c.push_field.ensures.text, c.push_actor.ensures.text, c.set_text.ensures, c.value.ensures.value) (mark_line _ _ (actor_plain _ c.push_actor.ensures.fits))
