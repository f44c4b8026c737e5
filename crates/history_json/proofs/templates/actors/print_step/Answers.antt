use Rattle.history_json.proofs.PlainLemmas.{actor_plain, step_plain}
use Rattle.history_json.proofs.TemplateLemmas.{step_line}
use Rattle.history_json.proofs.templates.actors.print_step.Goals as goal

pub returns-clause-text : goal.returns-clause-text
returns-clause-text c = rw (c.push_text-2.ensures.text, c.push_step.ensures.text, c.push_text.ensures.text, c.push_actor.ensures.text, c.set_text.ensures) (step_line _ _ (actor_plain _ c.push_actor.ensures.fits) (step_plain _ c.push_step.ensures.fits))
