use Rattle.history_json.proofs.PlainLemmas.{session_plain}
use Rattle.history_json.proofs.TemplateLemmas.{begin_line}
use Rattle.history_json.proofs.templates.sessions.print_begin.Goals as goal

pub returns-clause-text : goal.returns-clause-text
returns-clause-text c = rw (c.push_text.ensures.text, c.push_field.ensures.text, c.push_session.ensures.text, c.set_text.ensures, c.value.ensures.value) (begin_line _ _ (session_plain _ c.push_session.ensures.fits))
