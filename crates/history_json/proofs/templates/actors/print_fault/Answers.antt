use Rattle.history_json.proofs.PlainLemmas.{actor_plain, store_plain}
use Rattle.history_json.proofs.TemplateLemmas.{fault_line}
use Rattle.history_json.proofs.templates.actors.print_fault.Goals as goal

pub returns-clause-text : goal.returns-clause-text
returns-clause-text c = rw (c.push_text-2.ensures.text, c.push_store.ensures.text, c.push_text.ensures.text, c.push_actor.ensures.text, c.set_text.ensures) (fault_line _ _ (actor_plain _ c.push_actor.ensures.fits) (store_plain _))
