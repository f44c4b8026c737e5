use Rattle.history_json.proofs.PlainLemmas.{actor_plain, cause_plain}
use Rattle.history_json.proofs.TemplateLemmas.{refused_line}
use Rattle.history_json.proofs.templates.actors.print_refused.Goals as goal

pub returns-clause-text : goal.returns-clause-text
returns-clause-text c = rw (c.push_text-2.ensures.text, c.push_cause.ensures.text, c.push_text.ensures.text, c.push_actor.ensures.text, c.set_text.ensures) (refused_line _ _ (actor_plain _ c.push_actor.ensures.fits) (cause_plain _ c.push_cause.ensures.fits))
