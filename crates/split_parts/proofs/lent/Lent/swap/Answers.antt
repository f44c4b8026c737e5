use Rattle.std.proofs.Common.{rules, ap}
use Rattle.split_parts.proofs.Giving.{same_parts}
use Rattle.split_parts.proofs.lent.Lent.swap.Goals as goal

pub returns-clause-parts : goal.returns-clause-parts
returns-clause-parts c = same_parts _ _ (ap (λ r. r.plan) c.swap_sessions.ensures.rest) c.swap_sessions.ensures.sessions (search rules) (ap (λ r. r.clock) c.swap_sessions.ensures.rest) (search rules) (search rules) (search rules) (search rules) (search rules)
