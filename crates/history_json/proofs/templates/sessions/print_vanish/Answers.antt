use Rattle.history_json.proofs.PlainLemmas.{session_plain}
use Rattle.history_json.proofs.TemplateLemmas.{vanish_line}
use Rattle.history_json.proofs.templates.sessions.print_vanish.Goals as goal

pub returns-clause-text : goal.returns-clause-text
returns-clause-text c = rw (c.push_text.ensures.text, c.push_session.ensures.text, c.set_text.ensures) (vanish_line _ (session_plain _ c.push_session.ensures.fits))
