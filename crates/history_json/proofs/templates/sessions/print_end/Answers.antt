use Rattle.history_json.proofs.PlainLemmas.{ending_plain, session_plain}
use Rattle.history_json.proofs.TemplateLemmas.{end_line}
use Rattle.history_json.proofs.templates.sessions.print_end.Goals as goal

pub returns-clause-text : goal.returns-clause-text
returns-clause-text c = rw (c.push_text-2.ensures.text, c.push_field.ensures.text, c.push_session.ensures.text, c.push_text.ensures.text, c.push_ending.ensures.text, c.set_text.ensures, c.value.ensures.value) (end_line _ _ _ (ending_plain _) (session_plain _ c.push_session.ensures.fits))
