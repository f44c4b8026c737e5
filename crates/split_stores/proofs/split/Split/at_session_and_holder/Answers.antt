use Rattle.std.proofs.Common.{rules, ap, ◌∙◌, arith}
use Rattle.split_parts.specs.Parts.{Parts, seen}
use Rattle.split_parts.proofs.LentSessions.{kept_session, lent_session}
use Rattle.split_stores.proofs.split.Split.at_session_and_holder.Goals as goal

pub inside-requires-clause-parts : goal.inside-requires-clause-parts
inside-requires-clause-parts g c = λ lifetimes within at. c.requires.parts (seen c.with_node-lent.result) ((kept_session (seen c.with_node-lent.result) (seen c.with_session.result) c.args.session (ap (λ (p : Parts). p.sessions) c.with_node-lent.ensures ∙ ap (λ (p : Parts). p.sessions) c.with_master.ensures) (lent_session (seen c.with_session.result) (seen c.none.result) _ c.args.session c.index-5.result _ c.with_session.ensures c.none.ensures c.index-5.ensures.value (grind arith))), (search rules), (search rules)) at
