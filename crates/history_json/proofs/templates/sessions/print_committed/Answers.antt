use Rattle.history_json.proofs.PlainLemmas.{session_plain}
use Rattle.history_json.proofs.TemplateLemmas.{committed_line}
use Rattle.history_json.proofs.templates.sessions.print_committed.Goals as goal

pub returns-clause-text : goal.returns-clause-text
returns-clause-text c = rw (c.push_text-2.ensures.text, c.push_field.ensures.text, c.push_session.ensures.text, c.push_text.ensures.text, c.push_number.ensures.text, c.set_text.ensures, c.value.ensures.value, c.value-2.ensures.value) (committed_line _ _ _ (session_plain _ c.push_session.ensures.fits))
