use Rattle.split_parts.proofs.Names.{◌+◌, sym, subst, LendsBelow}
use Rattle.split_parts.proofs.LentSessions.{below_more}
use Rattle.split_parts.proofs.lent.Lent.with_next_session.Goals as goal

pub returns-clause-below : goal.returns-clause-below
returns-clause-below c = subst (LendsBelow (c.args.number + 1)) (sym c.with_session.ensures) (below_more _ c.args.number _ c.requires.number c.requires.below)
