use Rattle.history_json.proofs.PlainLemmas.{key_plain, session_plain}
use Rattle.history_json.proofs.TemplateLemmas.{read_none_line}
use Rattle.history_json.proofs.templates.sessions.print_read_none.Goals as goal

pub returns-clause-text : goal.returns-clause-text
returns-clause-text c = rw (c.push_text-2.ensures.text, c.push_field.ensures.text, c.push_session.ensures.text, c.push_text.ensures.text, c.push_key.ensures.text, c.set_text.ensures, c.value.ensures.value) (read_none_line _ _ _ (key_plain _ c.push_key.ensures.fits) (session_plain _ c.push_session.ensures.fits))
