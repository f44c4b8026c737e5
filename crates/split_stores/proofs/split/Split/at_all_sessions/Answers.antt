use Rattle.std.proofs.Common.{rules, ap}
use Rattle.split_parts.specs.Parts.{Parts, seen}
use Rattle.split_parts.proofs.LentSessions.{kept_below}
use Rattle.split_stores.proofs.split.Split.at_all_sessions.Goals as goal

pub inside-requires-clause-parts : goal.inside-requires-clause-parts
inside-requires-clause-parts g c = λ lifetimes within at. c.requires.parts (seen c.with_node-lent.result) (kept_below (seen c.with_node-lent.result) (seen c.with_next_session-16.result) 16 (ap (λ (p : Parts). p.sessions) c.with_node-lent.ensures) c.with_next_session-16.ensures.below, search rules) at
