use Rattle.trace_index.proofs.ChoiceLemmas.{closed, least}
use Rattle.trace_index.proofs.outcomes.open_outcomes_are_the_least.Goals as goal

pub returns-clause-closed : goal.returns-clause-closed
returns-clause-closed c = closed

pub returns-clause-least : goal.returns-clause-least
returns-clause-least c = least
