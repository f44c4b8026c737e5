use Rattle.split_parts.proofs.Names.{sym, ap, ◌∙◌, store_by, seen}
use Rattle.split_parts.proofs.lent.Lent.store_of.Goals as goal

pub returns-in-Step : goal.returns-in-Step
returns-in-Step c = c.step_store.ensures ∙ ap (store_by (seen c.args.self.now)) (sym c.in-Step.is)
