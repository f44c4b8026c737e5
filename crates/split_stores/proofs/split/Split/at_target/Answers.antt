use Rattle.std.proofs.Common.{sym, subst}
use Rattle.split_parts.specs.Agrees.{HasRecordFor}
use Rattle.split_stores.proofs.split.Split.at_target.Goals as goal

pub at_session_and_node-requires-clause-parts : goal.at_session_and_node-requires-clause-parts
at_session_and_node-requires-clause-parts g c = λ lifetimes within l has place. c.requires.parts l (has.0, has.1, subst (HasRecordFor l) (sym c.in-Node.is) tt) place

pub at_session_and_holder-requires-clause-parts : goal.at_session_and_holder-requires-clause-parts
at_session_and_holder-requires-clause-parts g c = λ lifetimes within l has place. c.requires.parts l (has.0, has.1, subst (HasRecordFor l) (sym c.in-Master.is) has.2) place
