use Rattle.history_json.proofs.PlainLemmas.{actor_plain, note_plain, noted_plain}
use Rattle.history_json.proofs.TemplateLemmas.{note_line}
use Rattle.history_json.proofs.templates.actors.print_note.Goals as goal

pub returns-clause-text : goal.returns-clause-text
returns-clause-text c = rw (c.push_text-3.ensures.text, c.push_note_word.ensures.text, c.push_text-2.ensures.text, c.push_noted.ensures.text, c.push_text.ensures.text, c.push_actor.ensures.text, c.set_text.ensures) (note_line _ _ _ (actor_plain _ c.push_actor.ensures.fits) (noted_plain _ c.push_noted.ensures.fits) (note_plain _))
