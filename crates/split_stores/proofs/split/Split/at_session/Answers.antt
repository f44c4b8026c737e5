use Rattle.std.proofs.Common.{arith}
use Rattle.split_parts.specs.Parts.{seen}
use Rattle.split_parts.proofs.LentSessions.{lent_session}
use Rattle.split_stores.proofs.split.Split.at_session.Goals as goal

pub inside-requires-clause-parts : goal.inside-requires-clause-parts
inside-requires-clause-parts g c = λ lifetimes within at. c.requires.parts (seen c.with_session-lent.result) (lent_session (seen c.with_session-lent.result) (seen c.none.result) _ c.args.session c.index-3.result _ c.with_session-lent.ensures c.none.ensures c.index-3.ensures.value (grind arith)) at
